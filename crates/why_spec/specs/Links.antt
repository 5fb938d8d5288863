-- LINKS: what one rule asks of two cells, as a distance that anyone can look up with a pencil. Whoever keeps the rules under this allowance has cell `to`
-- at least `apart` to the right of cell `from` (`link_true`); and whoever has all of these keeps S2 to S5 (`links-enough`). Assumes nothing.
use Rattle.std.specs.Prelude.{List, [], ◌∷◌, ◌≡◌, Bool, false, ◌&&◌, ◌||◌, ℕ, zero, suc, ◌+◌, length, T, leb, ℤ, pos, ◌+ℤ◌, ◌-ℤ◌, ◌≤ℤ◌}
use Rattle.whole.specs.Says.{eq_z}
use Rattle.plan.specs.Lists.{mem}
use Rattle.plan.specs.Plan.{Table, Is, box_width, box_depth, children, row, dictated_bottom, earlier}
use Rattle.rules.specs.Placement.{Placement}
use Rattle.rules.specs.Tests.{flush, after_one, before_one}
use Rattle.why_spec.specs.Measures.{Measure, far}

pub record Link : Type 0 where
  pub rule : ℕ
  pub from : ℕ
  pub to : ℕ
  pub apart : ℤ

module _ (t : Table) where
  -- a's box shares a row with b's box or stem, which take the rows from b's own to b's bottom; rows as S1 dictates them
  unfoldable pub box_meets : ℕ → ℕ → Bool
  box_meets a b = leb (row t a) (dictated_bottom t b) && leb (row t b) (row t a + box_depth t a)

  -- a's stem does
  unfoldable pub stem_meets : ℕ → ℕ → Bool
  stem_meets a b = leb 1 (length (children t a)) && (leb (row t a + box_depth t a + 1) (dictated_bottom t b) && leb (row t b) (dictated_bottom t a))

  -- rule r asks that b stand d or more to the right of a. What a `let` binds waits until the test before it asks for it
  unfoldable pub asks : (al r a b : ℕ) → ℤ → Bool
  asks al zero a b d = false
  asks al (suc zero) a b d = false
  -- S2: 0, both ways, between a parent and its appointed child
  asks al (suc (suc zero)) a b d = let k = flush t a b || flush t b a in eq_z d (pos 0) && k
  -- S3: a right edge and 1 to the sibling right after the one that a is at or below; 1 from a to what is at or below the sibling right after a
  asks al (suc (suc (suc zero))) a b d =
      let e = after_one t a b in
      let s = before_one t a b in
      eq_z d (pos (box_width t a + 1)) && e || eq_z d (pos 1) && s
  -- S4: a's right end in a shared row and 1, by its box, or by its stem
  asks al (suc (suc (suc (suc zero)))) a b d =
      let e = earlier t a b && box_meets a b in
      let s = earlier t a b && stem_meets a b in
      eq_z d (pos (box_width t a + 1)) && e || eq_z d (pos 1) && s
  -- S5: a's right edge and 1, less the allowance; it may be less than 0
  asks al (suc (suc (suc (suc (suc zero))))) a b d = let e = earlier t a b in eq_z d (pos (box_width t a + 1) -ℤ pos al) && e
  asks al (suc (suc (suc (suc (suc (suc r)))))) a b d = false

module _ (t : Table) (al : ℕ) where
  -- the link is an instance of its rule
  pub record Justified (l : Link) : Type 0 where
    pub from_is : Is t l.from
    pub to_is : Is t l.to
    pub asked : T (asks t al l.rule l.from l.to l.apart)

  -- links end to end, from cell c to cell e
  abbrev pub Chain : ℕ → List Link → ℕ → Type 0
  Chain c [] e = c ≡ e
  Chain c (l ∷ ls) e = (l.from ≡ c) × Justified l × Chain l.to ls e

-- their distances added up
unfoldable pub adds_up : List Link → ℤ
adds_up [] = pos 0
adds_up (l ∷ ls) = l.apart +ℤ adds_up ls

-- a reason: a first cell, links, a last cell
pub record Reason : Type 0 where
  pub first : ℕ
  pub links : List Link
  pub last : ℕ

-- WHAT THERE IS TO CHECK WITH A PENCIL, of a reason why a measure is w or more: each link is an instance of its rule, they stand end to end, from a cell where the measure may begin
-- to one where it may end, and their distances and how far past its x the last cell is taken add up to w
pub record Certifies (t : Table) (al : ℕ) (μ : Measure) (w : ℤ) (r : Reason) : Type 0 where
  pub begins : T (mem r.first μ.starts)
  pub chain : Chain t al r.first r.links r.last
  pub finishes : T (mem r.last μ.ends)
  pub sum : adds_up r.links +ℤ pos (μ.past r.last) ≡ w

-- each link's cells have just its distance
abbrev pub Exact : Placement → List Link → Type 0
Exact p [] = Unit {0}
Exact p (l ∷ ls) = (l.apart ≡ p.x l.to -ℤ p.x l.from) × Exact p ls

-- the reason as it is seen on a sheet: from a cell with the least x, by links without room, to a cell that is taken farthest to the right (for the width, one with the greatest right edge)
pub record Taut (μ : Measure) (p : Placement) (r : Reason) : Type 0 where
  pub least_x : (a : ℕ) → T (mem a μ.starts) → p.x r.first ≤ℤ p.x a
  pub exact : Exact p r.links
  pub farthest : (b : ℕ) → T (mem b μ.ends) → far μ p b ≤ℤ far μ p r.last
