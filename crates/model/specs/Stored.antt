-- What the invariants of figures, weights and differences say of the lists that they stand for.
use Rattle.std.specs.Prelude.{◌≡◌, ℕ, ◌<◌, ◌≤◌, List, length, ℤ, pos, slice_index, slice_index_or, unsigned_abs}
use Rattle.std.proofs.Common.{ap, subst, sym, arith}
use Rattle.std.specs.List.{AllByRecursion}
use Rattle.std.proofs.lemmas.List.{length-take-le}
use Rattle.model.specs.Limits.{InLimit, InRange, Proper, Ranged}
use Rattle.model.specs.Numbers.{numbers_of}
use Rattle.model.specs.Values.{figures_of, parts_of, entries_of}
use Rattle.model.specs.Weighing.{total}
use Rattle.model.specs.declared.difference.Difference.{Difference}
use Rattle.model.specs.declared.figures.Figures.{Figures}
use Rattle.model.specs.declared.per_figure.PerFigure.{PerFigure}
use Rattle.model.specs.declared.weight.Weight.{Weight}
use Rattle.model.specs.Each.{All-at}

-- a number at any place: past the end it is 0
pub limit_at : (xs : List ℕ) → AllByRecursion InLimit xs → (k : ℕ) → slice_index xs k ≤ 1000000
limit_at xs all k = All-at InLimit xs 0 all (omega arith) k

-- as many numbers as the count says
pub numbers_count : {T : Type 0} (held : PerFigure T) → length (numbers_of held) ≡ held.count
numbers_count held = length-take-le held.count held.numbers held.stored

pub figures_count : (figures : Figures) → length (figures_of figures) ≡ figures.values.count
figures_count figures = numbers_count figures.values

pub figures_limits : (figures : Figures) → AllByRecursion InLimit (figures_of figures)
figures_limits figures = figures.limits

pub parts_count : (weight : Weight) → length (parts_of weight) ≡ weight.parts.count
parts_count weight = numbers_count weight.parts

-- parts that are lent: at most eight, each within the limit at any place
pub lent_few : (weight : Weight) (parts : List ℕ) → parts ≡ parts_of weight → length parts ≤ 8
lent_few weight parts same = omega (arith, ap length same, parts_count weight, weight.parts.most)

pub parts_limits : (weight : Weight) → AllByRecursion InLimit (parts_of weight)
parts_limits weight = weight.limits

pub lent_limit : (weight : Weight) (parts : List ℕ) → parts ≡ parts_of weight → (k : ℕ) → slice_index parts k ≤ 1000000
lent_limit weight parts same k = limit_at parts (subst (AllByRecursion InLimit) (sym same) (parts_limits weight)) k

pub parts_proper : (weight : Weight) → Proper weight.parts.count (parts_of weight)
parts_proper weight = record { width = parts_count weight; limits = parts_limits weight; some = weight.some }

-- what a weight was made of is proper
pub made_proper : (weight : Weight) (parts : List ℕ) (d : ℕ) → parts_of weight ≡ parts → length parts ≡ d → Proper d parts
made_proper weight parts d same width =
    record { width = width; limits = subst (AllByRecursion InLimit) same (parts_limits weight); some = subst (λ w. 0 < total w) same weight.some }

pub entries_count : (difference : Difference) → length (entries_of difference) ≡ difference.entries.count
entries_count difference = numbers_count difference.entries

pub entries_ranged : (difference : Difference) → Ranged difference.entries.count (entries_of difference)
entries_ranged difference =
    record { width = entries_count difference; range = difference.range }

-- entries that are lent: at most eight, each within the range at any place
pub lent_entries_few : (difference : Difference) (entries : List ℤ) → entries ≡ entries_of difference → length entries ≤ 8
lent_entries_few difference entries same = omega (arith, ap length same, entries_count difference, difference.entries.most)

pub lent_range : (difference : Difference) (entries : List ℤ) → entries ≡ entries_of difference → (k : ℕ) → unsigned_abs (slice_index_or entries k (pos 0)) ≤ 1000000000000
lent_range difference entries same k = All-at InRange entries (pos 0) (subst (AllByRecursion InRange) (sym same) (entries_ranged difference).range) (omega arith) k
