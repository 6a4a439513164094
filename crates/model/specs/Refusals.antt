-- The grounds of refusal: the number that a refused call returns, the place of each ground in the order in which they are checked, and the rule that the first ground refuses. Number and place are two things: a ground that is added later has the next number, and its place among the others.
use Rattle.std.specs.Prelude.{◌≡◌, ℕ, ◌≤◌, ◌⊎◌, Ok, Err, Result, MatchResult}
use Rattle.model.specs.declared.handed_back.HandedBack.{HandedBack}
use Rattle.model.specs.declared.make_error.MakeError.{MakeError}
use Rattle.model.specs.declared.make_error.MakeError.TheVariants.{Refused, Memory}
use Rattle.model.specs.declared.refusal.Refusal.{Refusal}
use Rattle.model.specs.declared.refusal.Refusal.TheVariants.{FileSize, Header, Offsets, FigureCount, Rows, Sample, Width, Part, Full, SameFigures, NotAdmissible, ClaimBytes, NotStanding, Mixture, ProofLength, ProofNumber, OutOfRange, NotShown, Buffer}

-- the number that stands for a ground wherever one is returned or printed
abbrev pub number : Refusal → ℕ
number FileSize = 1
number Header = 2
number Offsets = 3
number FigureCount = 4
number Rows = 5
number Sample = 6
number Width = 7
number Part = 8
number Full = 9
number SameFigures = 10
number NotAdmissible = 11
number ClaimBytes = 12
number NotStanding = 13
number Mixture = 14
number ProofLength = 15
number ProofNumber = 16
number OutOfRange = 17
number NotShown = 18
number Buffer = 19

-- the place of a ground in the checking order
abbrev pub place : Refusal → ℕ
place FileSize = 1
place Header = 2
place Offsets = 3
place FigureCount = 4
place Rows = 5
place Sample = 6
place Width = 7
place Part = 8
place Full = 9
place SameFigures = 10
place NotAdmissible = 11
place ClaimBytes = 12
place NotStanding = 13
place Mixture = 14
place ProofLength = 15
place ProofNumber = 16
place OutOfRange = 17
place NotShown = 18
place Buffer = 19

-- A table of grounds says of each refusal when it meets a call. It is written line by line: the refusal, what has to hold for it to meet the call, and the further lines.
abbrev pub line : Refusal → Type 0 → (Refusal → Type 0) → Refusal → Type 0
line r P further s = ((s ≡ r) × P) ⊎ further s

abbrev pub end : Refusal → Type 0
end s = ⊥

-- a call is refused with r: r meets it, and no ground that meets it has an earlier place
pub record Refuses (Meets : Refusal → Type 0) (r : Refusal) : Type 0 where
  pub meets : Meets r
  pub first : (s : Refusal) → Meets s → place r ≤ place s

-- no ground meets the call
abbrev pub Unopposed : (Refusal → Type 0) → Type 0
Unopposed Meets = (s : Refusal) → Meets s → ⊥

-- a call's result: a value with the property P exactly where no ground meets the call, and elsewhere the first ground that meets it
abbrev pub Checked : {X : Type 0} → (Refusal → Type 0) → Result X Refusal → (X → Type 0) → Type 0
Checked Meets result P = MatchResult result (λ x. Unopposed Meets × P x) (Refuses Meets)

-- The result of a call that needs memory: a value with the property P only where no ground meets the call; the first ground wherever one does; and want of memory, which has no number, only where no ground meets the call. So no refusal depends on memory.
abbrev pub Made : {X : Type 0} → (Refusal → Type 0) → Result X MakeError → (X → Type 0) → Type 0
Made Meets (Ok x) P = Unopposed Meets × P x
Made Meets (Err (Refused r)) P = Refuses Meets r
Made Meets (Err Memory) P = Unopposed Meets

-- The result of a call that takes a value: a value with the property P exactly where no ground meets the call, and elsewhere the first ground that meets it, with what was given, unaltered.
abbrev pub HandsBack : {X T : Type 0} → (Refusal → Type 0) → T → Result X (HandedBack T Refusal) → (X → Type 0) → Type 0
HandsBack Meets given result P = MatchResult result (λ x. Unopposed Meets × P x) (λ back. Refuses Meets back.error × (back.value ≡ given))
