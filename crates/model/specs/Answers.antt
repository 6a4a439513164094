-- The words of the two answers, as the page prints them.
use Rattle.std.specs.Prelude.{ℕ, List, codes}
use Rattle.model.specs.declared.list_answer.ListAnswer.{ListAnswer}
use Rattle.model.specs.declared.top_answer.TopAnswer.{TopAnswer}

-- whether another variant is never worse: kept if none is, dropped if one is
abbrev pub list_word : ListAnswer → List ℕ
list_word ListAnswer.Kept = codes "kept"
list_word ListAnswer.Dropped = codes "dropped"
list_word ListAnswer.Open = codes "open"

-- whether some admissible weight makes the variant the single best: first if one does, never if none does
abbrev pub top_word : TopAnswer → List ℕ
top_word TopAnswer.First = codes "first"
top_word TopAnswer.Never = codes "never"
top_word TopAnswer.Open = codes "open"
