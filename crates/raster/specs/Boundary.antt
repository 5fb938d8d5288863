-- "ON THE BOUNDARY OF SOME BOX" (document 02, E8), as a fact. Assumes nothing.
use Rattle.std.specs.Prelude.{◌≡◌, ◌⊎◌, ℕ, ℤ, ◌≤ℤ◌}
use Rattle.plan.specs.Plan.{Table, Is}
use Rattle.rules.specs.Placement.{Placement, right, base}

module _ (t : Table) (p : Placement) (χ ρ : ℤ) where
  -- column χ of row ρ is on the boundary of box a: in column x or x + W, in one of its rows; or in row y or y + D, in one of its columns
  abbrev pub On : ℕ → Type 0
  On a =
      (((χ ≡ p.x a) ⊎ (χ ≡ right t p a)) × ((p.y a ≤ℤ ρ) × (ρ ≤ℤ base t p a)))
      ⊎ (((ρ ≡ p.y a) ⊎ (ρ ≡ base t p a)) × ((p.x a ≤ℤ χ) × (χ ≤ℤ right t p a)))

  -- of some box
  pub record OnSome : Type 0 where
    pub cell : ℕ
    pub is : Is t cell
    pub on : On cell
