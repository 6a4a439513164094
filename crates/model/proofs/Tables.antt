-- Which ground of a table refuses a call.
use Rattle.std.proofs.Common.{ℕ, ◌≤◌, sym, refl, subst, inl, inr, le_refl}
use Rattle.model.specs.Refusals.{place, line, end, Refuses, Unopposed}
use Rattle.model.specs.declared.refusal.Refusal.{Refusal}

-- every ground of the table has its place at b or after it
abbrev pub From : ℕ → (Refusal → Type 0) → Type 0
From b table = (s : Refusal) → table s → b ≤ place s

pub from_end : (b : ℕ) → From b end
from_end b s h = absurd h

pub from_line : (b : ℕ) (r : Refusal) (P : Type 0) (further : Refusal → Type 0) → b ≤ place r → From b further → From b (line r P further)
from_line b r P further le later s (inl h) = subst (λ x. b ≤ place x) (sym h.0) le
from_line b r P further le later s (inr h) = later s h

-- the table's first line meets the call
pub refused : (r : Refusal) (P : Type 0) (further : Refusal → Type 0) → From (place r) further → P → Refuses (line r P further) r
refused r P further later p = record { meets = inl (refl, p); first = from_line (place r) r P further (le_refl (place r)) later }

-- it does not, and a later one does
pub refused_later : (r : Refusal) (P : Type 0) (further : Refusal → Type 0) (s : Refusal) → (P → ⊥) → Refuses further s → Refuses (line r P further) s
refused_later r P further s not-r h = record { meets = inr h.meets; first = earlier }
  where
    earlier : (t : Refusal) → line r P further t → place s ≤ place t
    earlier t (inl e) = absurd (not-r e.1)
    earlier t (inr e) = h.first t e

-- no line does
pub unopposed_end : Unopposed end
unopposed_end s h = h

pub unopposed : (r : Refusal) (P : Type 0) (further : Refusal → Type 0) → (P → ⊥) → Unopposed further → Unopposed (line r P further)
unopposed r P further not-r later s (inl e) = not-r e.1
unopposed r P further not-r later s (inr e) = later s e
