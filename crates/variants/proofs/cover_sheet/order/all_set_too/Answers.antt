use Rattle.std.proofs.Common.{rules, tests, ◌∙◌, arith}
use Rattle.std.proofs.lemmas.Iterator.{YieldsList-from_slice, YieldsList-from_zip}
use Rattle.std.proofs.lemmas.Iterator.Search.{all_from_yields_List}
use Rattle.variants.proofs.Pairs.{set_too-zip}
use Rattle.variants.proofs.cover_sheet.order.all_set_too.Goals as goal

pub returns : goal.returns
returns c = all_from_yields_List _ c.all.new.self _ _ c.all.ensures.ran (YieldsList-from_zip (YieldsList-from_slice c.args.marks.now cc) (YieldsList-from_slice c.args.others.now cc)) (λ x b q k. search (rules, tests)) ∙ set_too-zip c.args.marks.now c.args.others.now (omega arith)
