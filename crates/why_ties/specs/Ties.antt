-- The links that two cells just keep, as the code tests them, on the numbers of the two cells (crate looking_sights). Assumes nothing.
use Rattle.std.specs.Prelude.{Bool, cond, ◌&&◌, ◌||◌, ℕ, zero, suc, ◌+◌, ◌^◌, ◌<◌, eqb, leb, ltb, Option, Some, None}
use Rattle.plan.specs.Limits.{most_cells}
use Rattle.looking_sights.specs.declared.View.{View}

-- two cells' numbers, none too large to add to
pub record Ready (a b : ℕ) (v w : View) (al : ℕ) : Type 0 where
  pub a_few : a < most_cells
  pub b_few : b < most_cells
  pub x_small : v.x < 2 ^ 31
  pub right_small : v.right < 2 ^ 31
  pub to_small : w.x < 2 ^ 31
  pub al_small : al < 2 ^ 31

-- w's cell is the appointed child of v's cell a
unfoldable pub appoints : ℕ → View → View → Bool
appoints a v w = eqb w.parent a && eqb w.nth v.middle

unfoldable pub tie2 : ℕ → ℕ → View → View → Bool
tie2 a b v w = eqb v.x w.x && (appoints a v w || appoints b w v)

unfoldable pub tie3_ends : View → View → Bool
tie3_ends v w = eqb (v.right + 1) w.x && (leb w.from v.first && ltb v.first w.first)

unfoldable pub tie3_starts : View → View → Bool
tie3_starts v w = eqb (v.x + 1) w.x && (leb v.end w.first && ltb w.first v.to)

unfoldable pub tie4_box : View → View → Bool
tie4_box v w = eqb (v.right + 1) w.x && (leb v.end w.first && (leb v.y w.bottom && leb w.y v.base))

unfoldable pub tie4_stem : View → View → Bool
tie4_stem v w = eqb (v.x + 1) w.x && (leb v.end w.first && (ltb v.base v.bottom && (ltb v.base w.bottom && leb w.y v.bottom)))

unfoldable pub tie5 : ℕ → View → View → Bool
tie5 al v w = eqb (v.right + 1) (w.x + al) && leb v.end w.first

-- the lowest rule that does, or 0
unfoldable pub rule_of : ℕ → ℕ → ℕ → View → View → ℕ
rule_of al a b v w =
    cond (tie2 a b v w) 2 (cond (tie3_ends v w || tie3_starts v w) 3 (cond (tie4_box v w || tie4_stem v w) 4 (cond (tie5 al v w) 5 0)))

-- a rule's number as it is answered: 0 is none
unfoldable pub named : ℕ → Option ℕ
named zero = None
named (suc r) = Some (suc r)
