-- What a `match` arm with two patterns tells: that the number is one or the other; and where no arm fits, that it is neither.
use mathlib.Core.Logic.{◌⊎◌, inl, inr}

pub either : {A B C : Type 0} → A ⊎ B → (A → C) → (B → C) → C
either (inl a) f g = f a
either (inr b) f g = g b

pub neither : {A B : Type 0} → (A ⊎ B → ⊥) → (A → ⊥) × (B → ⊥)
neither n = (λ a. n (inl a), λ b. n (inr b))
