-- Tests made one after the other, as the code makes them. Assumes nothing.
use mathlib.Core.Path.{◌≡◌}
use mathlib.Core.Bool.{Bool, true, false, ◌&&◌, ◌||◌}
use Prim.Native.Nat.{ℕ}
use Rattle.std.specs.Prelude.{Some, None}
use Rattle.looking_sights.specs.declared.View.{View}
use Rattle.why_ties.specs.Ties.{tie2, tie3_ends, tie3_starts, tie4_box, tie4_stem, tie5, rule_of, named}

pub and_no : {p : Bool} (q : Bool) → p ≡ false → false ≡ p && q
and_no q e = rw e

pub and_yes : {p : Bool} (q : Bool) → p ≡ true → q ≡ p && q
and_yes q e = rw e

pub or_yes : {p : Bool} (q : Bool) → p ≡ true → true ≡ p || q
or_yes q e = rw e

pub or_no : {p : Bool} (q : Bool) → p ≡ false → q ≡ p || q
or_no q e = rw e

-- the lowest rule
module _ (al a b : ℕ) (v w : View) where
  pub is2 : tie2 a b v w ≡ true → Some 2 ≡ named (rule_of al a b v w)
  unfolding rule_of named
  is2 h = rw (h)

  pub is3_ends : tie2 a b v w ≡ false → tie3_ends v w ≡ true → Some 3 ≡ named (rule_of al a b v w)
  unfolding rule_of named
  is3_ends h i = rw (h, i)

  pub is3_starts : tie2 a b v w ≡ false → tie3_ends v w ≡ false → tie3_starts v w ≡ true → Some 3 ≡ named (rule_of al a b v w)
  unfolding rule_of named
  is3_starts h i j = rw (h, i, j)

  pub is4_box : tie2 a b v w ≡ false → tie3_ends v w ≡ false → tie3_starts v w ≡ false → tie4_box v w ≡ true → Some 4 ≡ named (rule_of al a b v w)
  unfolding rule_of named
  is4_box h i j k = rw (h, i, j, k)

  pub is4_stem : tie2 a b v w ≡ false → tie3_ends v w ≡ false → tie3_starts v w ≡ false → tie4_box v w ≡ false → tie4_stem v w ≡ true → Some 4 ≡ named (rule_of al a b v w)
  unfolding rule_of named
  is4_stem h i j k l = rw (h, i, j, k, l)

  pub is5 : tie2 a b v w ≡ false → tie3_ends v w ≡ false → tie3_starts v w ≡ false → tie4_box v w ≡ false → tie4_stem v w ≡ false → tie5 al v w ≡ true → Some 5 ≡ named (rule_of al a b v w)
  unfolding rule_of named
  is5 h i j k l n = rw (h, i, j, k, l, n)

  pub is0 : tie2 a b v w ≡ false → tie3_ends v w ≡ false → tie3_starts v w ≡ false → tie4_box v w ≡ false → tie4_stem v w ≡ false → tie5 al v w ≡ false → None ≡ named (rule_of al a b v w)
  unfolding rule_of named
  is0 h i j k l n = rw (h, i, j, k, l, n)
