-- A variant of one of two kinds.
use Rattle.std.specs.Prelude.{ℕ, Bool, false, List}
use Rattle.variants.specs.declared.either_variant.EitherVariant.{EitherVariant}
use Rattle.variants.specs.declared.either_variant.EitherVariant.TheVariants.{First, Second}

-- the figures of the kind that it is of
abbrev pub either_figures : {A B : Type 0} → (A → List ℕ) → (B → List ℕ) → EitherVariant A B → List ℕ
either_figures first second (First variant) = first variant
either_figures first second (Second variant) = second variant

-- at least as good only within one kind, by that kind's order
abbrev pub either_better : {A B : Type 0} → (A → A → Bool) → (B → B → Bool) → EitherVariant A B → EitherVariant A B → Bool
either_better first second (First x) (First y) = first x y
either_better first second (First x) (Second y) = false
either_better first second (Second x) (First y) = false
either_better first second (Second x) (Second y) = second x y
