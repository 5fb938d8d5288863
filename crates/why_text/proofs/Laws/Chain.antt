-- The lines of a reason are those of its chain, cell by cell. Assumes nothing.
use Rattle.std.specs.Prelude.{◌≡◌, length, get_or, ℤ, ◌+ℤ◌, ◌-ℤ◌}
use Rattle.std.proofs.Math.Path.{refl, sym, ap}
use Rattle.std.proofs.Common.{◌∙◌}
use mathlib.Core.List.{List, ◌∷◌, ◌++◌, append-nil, append_assoc}
use Prim.Native.Nat.{ℕ, zero, suc, ◌+◌, ◌≤◌, ◌<◌}
use Rattle.std.proofs.Math.Numerals.{add-one}
use native.Mathlib.Omega.{arith}
use Rattle.std.proofs.Math.IntN.{pos}
use Rattle.whole.proofs.Laws.Whole.{whole, sum, diff}
use Rattle.plan.specs.Limits.{farthest}
use Rattle.plan.specs.Plan.{Table, Is, box_width}
use Rattle.rules.specs.Placement.{Placement}
use Rattle.listing.specs.Printed.{Bytes, lines_joined}
use Rattle.why_spec.specs.Links.{adds_up}
use Rattle.why_spec.specs.Search.{link}
use Rattle.why_search.specs.Stops.{steps}
use Rattle.why_search.specs.Explains.{Chained}
use Rattle.why_lines.specs.Printed.{link_line, last_line, link_lines}
use Rattle.why_lines.specs.Steps.{x_of, step_line, steps_text, end_line}

-- n is x moved up
abbrev pub Raised : ℤ → ℕ → Type 0
Raised x n = pos n ≡ x +ℤ pos farthest

module _ (t : Table) (al : ℕ) (p : Placement) (count : ℕ) (cells rules xs : List ℕ) (c : Chained t al p count cells rules) (up : (a : ℕ) → Is t a → Raised (p.x a) (get_or xs a 0)) where
  abbrev at : ℕ → ℕ
  at j = get_or cells j 0

  -- how far cell number j stands from the first
  abbrev off : ℕ → ℤ
  off j = p.x (at j) -ℤ p.x (at 0)

  raised : (j : ℕ) → j ≤ count → Raised (p.x (at j)) (x_of cells xs j)
  raised j h = up (at j) (c.inside j h)

  apart_is : (i j : ℕ) → i ≤ count → j ≤ count → pos (x_of cells xs j) -ℤ pos (x_of cells xs i) ≡ p.x (at j) -ℤ p.x (at i)
  apart_is i j h k =
      omega (
        whole,
        raised i h,
        raised j k,
        sum (p.x (at i)) (pos farthest),
        sum (p.x (at j)) (pos farthest),
        diff (pos (x_of cells xs j)) (pos (x_of cells xs i)),
        diff (p.x (at j)) (p.x (at i)),
      )

  line-is : (j : ℕ) → j < count → link_line (link t al p (at j) (at (suc j))) (off (suc j)) ≡ step_line cells rules xs j
  unfolding link step_line
  line-is j h =
      let e : j + 1 ≡ suc j = add-one j in
      let r = rw e at (c.named j h) in
      rw (e, apart_is j (suc j) (omega arith) (omega arith), apart_is 0 (suc j) (omega arith) (omega arith), r)

  sum_is : (i : ℕ) → off i +ℤ (p.x (at (suc i)) -ℤ p.x (at i)) ≡ off (suc i)
  sum_is i =
      omega (
        whole,
        diff (p.x (at i)) (p.x (at 0)),
        diff (p.x (at (suc i))) (p.x (at i)),
        diff (p.x (at (suc i))) (p.x (at 0)),
        sum (off i) (p.x (at (suc i)) -ℤ p.x (at i)),
      )

  -- the lines of the links from cell number i on: the first of them, and the others
  opened : (i d : ℕ) → link_lines (off i) (steps t al p at i (suc d))
      ≡ link_line (link t al p (at i) (at (suc i))) (off i +ℤ (p.x (at (suc i)) -ℤ p.x (at i))) ∷ link_lines (off i +ℤ (p.x (at (suc i)) -ℤ p.x (at i))) (steps t al p at (suc i) d)
  unfolding steps link_lines link
  opened i d = refl

  first_line : (i d : ℕ) → i < count → link_lines (off i) (steps t al p at i (suc d)) ≡ step_line cells rules xs i ∷ link_lines (off (suc i)) (steps t al p at (suc i) d)
  first_line i d l = opened i d ∙ rw (sum_is i, line-is i l)

  front : (i d : ℕ) → i < count → lines_joined (link_lines (off i) (steps t al p at i (suc d))) ≡ step_line cells rules xs i ++ lines_joined (link_lines (off (suc i)) (steps t al p at (suc i) d))
  unfolding lines_joined
  front i d l = ap lines_joined (first_line i d l)

  more : (i d : ℕ) → (steps_text cells rules xs i ++ step_line cells rules xs i) ++ lines_joined (link_lines (off (suc i)) (steps t al p at (suc i) d))
      ≡ steps_text cells rules xs (suc i) ++ lines_joined (link_lines (off (suc i)) (steps t al p at (suc i) d))
  unfolding steps_text
  more i d = refl

  -- the first i lines, and those of the links from there on
  lines_from : (i d : ℕ) → i + d ≤ count → steps_text cells rules xs i ++ lines_joined (link_lines (off i) (steps t al p at i d)) ≡ steps_text cells rules xs (i + d)
  lines_from i zero h = let e : i + 0 ≡ i = omega arith in rw e (unfold steps link_lines lines_joined in append-nil (steps_text cells rules xs i))
  lines_from i (suc d) h =
      let e : i + suc d ≡ suc i + d = omega arith in
      rw e
      (ap (λ (r : Bytes). steps_text cells rules xs i ++ r) (front i d (omega arith))
      ∙ sym (append_assoc (steps_text cells rules xs i) (step_line cells rules xs i) _)
      ∙ more i d
      ∙ lines_from (suc i) d (omega arith))

  nothing : lines_joined (link_lines (off 0) (steps t al p at 0 count)) ≡ steps_text cells rules xs 0 ++ lines_joined (link_lines (off 0) (steps t al p at 0 count))
  unfolding steps_text
  nothing = refl

  pub lines_are : lines_joined (link_lines (pos 0) (steps t al p at 0 count)) ≡ steps_text cells rules xs count
  lines_are =
      let z : pos 0 ≡ off 0 = omega (whole, diff (p.x (at 0)) (p.x (at 0))) in
      let e : 0 + count ≡ count = omega arith in
      rw z (nothing ∙ lines_from 0 count (omega arith) ∙ ap (steps_text cells rules xs) e)

  -- the sum of the distances
  sums : (i d : ℕ) → off i +ℤ adds_up (steps t al p at i d) ≡ off (i + d)
  unfolding steps adds_up link
  sums i zero = let e : i + 0 ≡ i = omega arith in rw e (omega (whole, sum (off i) (pos 0)))
  sums i (suc d) =
      let e : i + suc d ≡ suc i + d = omega arith in
      let a = p.x (at (suc i)) -ℤ p.x (at i) in
      let s = adds_up (steps t al p at (suc i) d) in
      rw e (omega (whole, sum_is i, sums (suc i) d, sum a s, sum (off i) (a +ℤ s), sum (off i) a, sum (off (suc i)) s))

  pub end_is : last_line (at count) (box_width t (at count)) (adds_up (steps t al p at 0 count) +ℤ pos (box_width t (at count))) ≡ end_line cells xs count (box_width t (at count))
  unfolding end_line
  end_is = rw whole_sum
    where
      whole_sum : adds_up (steps t al p at 0 count) +ℤ pos (box_width t (at count)) ≡ pos (x_of cells xs count + box_width t (at count)) -ℤ pos (x_of cells xs 0)
      whole_sum =
          let s = adds_up (steps t al p at 0 count) in
          let e : 0 + count ≡ count = omega arith in
          let q : off 0 +ℤ s ≡ off count = sums 0 count ∙ ap off e in
          omega (
            whole,
            q,
            apart_is 0 count (omega arith) (omega arith),
            sum (off 0) s,
            sum s (pos (box_width t (at count))),
            diff (p.x (at 0)) (p.x (at 0)),
            diff (pos (x_of cells xs count)) (pos (x_of cells xs 0)),
            diff (pos (x_of cells xs count + box_width t (at count))) (pos (x_of cells xs 0)),
          )

  pub count-is : (i d : ℕ) → length (steps t al p at i d) ≡ d
  unfolding steps
  count-is i zero = refl
  count-is i (suc d) = ap suc (count-is (suc i) d)
