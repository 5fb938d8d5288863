-- The drawing rules S2 to S5 on a forest, over natural numbers: the form in which they are proved. Rows are counted from the forest's top row.
-- Nothing that a reader must believe stands here. Assumes nothing.
use Rattle.std.specs.Prelude.{ℕ, zero, suc, ◌+◌, ◌-◌, ◌≤◌, ◌<◌, max, ◌≡◌}
use Rattle.plan.specs.Plan.{Table, box_width, box_depth, place}
use Rattle.contours.specs.Contour.{stride}
use Rattle.contours.specs.Sheet.{middle, around}
use Rattle.contours.proofs.Laws.Forest.{Forest, none, tree, count, traces}

-- a is the number of a cell of the forest, or below
pub data In : Forest → ℕ → Type 0 where
  top : {c : ℕ} {ss r : Forest} → In (tree c ss r) c
  under : {c a : ℕ} {ss r : Forest} → In ss a → In (tree c ss r) a
  beside : {c a : ℕ} {ss r : Forest} → In r a → In (tree c ss r) a

-- sibling number m, from 0
unfoldable pub nth : Forest → ℕ → ℕ
nth none m = 0
nth (tree c ss r) zero = c
nth (tree c ss r) (suc m) = nth r m

-- how many rows the forest takes
unfoldable pub height : Table → Forest → ℕ
height t none = 0
height t (tree c ss r) = max (box_depth t c + 1 + height t ss) (height t r)

-- cell a of the forest, or below, fills columns x a to x a + e of row j: by its box, or by its stem
pub data Fills (t : Table) : Forest → ℕ → ℕ → ℕ → Type 0 where
  box : {c j : ℕ} {ss r : Forest} → j ≤ box_depth t c → Fills t (tree c ss r) j c (box_width t c)
  stem : {c j : ℕ} {ss r : Forest} → box_depth t c < j → j < box_depth t c + 1 + height t ss → Fills t (tree c ss r) j c 0
  under : {c j a e : ℕ} {ss r : Forest} → box_depth t c < j → Fills t ss (j - (box_depth t c + 1)) a e → Fills t (tree c ss r) j a e
  beside : {c j a e : ℕ} {ss r : Forest} → Fills t r j a e → Fills t (tree c ss r) j a e

module _ (t : Table) (al : ℕ) (x : ℕ → ℕ) where
  -- a parent has the x of the child at its place
  abbrev pub S2 : ℕ → Forest → Type 0
  S2 c ss = 0 < count ss → x c ≡ x (nth ss (place t c (count ss)))

  -- between a sibling and the next: right edges stay short of the next's x, and x's beyond it stay past the first's
  abbrev pub S3 : ℕ → Forest → Forest → Type 0
  S3 c ss none = Unit {0}
  S3 c ss (tree d ts r) =
      record {
        ends : (a : ℕ) → In (tree c ss none) a → x a + box_width t a < x d;
        starts : (b : ℕ) → In (tree d ts none) b → x c < x b;
      }

  -- between a sibling and all later ones: in a shared row the earlier ends before the later starts
  abbrev pub S4 : ℕ → Forest → Forest → Type 0
  S4 c ss r = (j a e b f : ℕ) → Fills t (tree c ss none) j a e → Fills t r j b f → x a + e < x b

  abbrev pub S5 : ℕ → Forest → Forest → Type 0
  S5 c ss r = (a b : ℕ) → In (tree c ss none) a → In r b → x a + box_width t a + 1 ≤ x b + al

  -- the rules are kept at every parent and between all siblings, all the way down
  abbrev pub Keeps : Forest → Type 0
  Keeps none = Unit {0}
  Keeps (tree c ss r) =
      record { s2 : S2 c ss; s3 : S3 c ss r; s4 : S4 c ss r; s5 : S5 c ss r; children : Keeps ss; rest : Keeps r }

  -- siblings stand at their offsets, the first at X, and their parent, at column b, at P
  abbrev pub Spread : ℕ → ℕ → ℕ → Forest → Type 0
  Spread b P X none = Unit {0}
  Spread b P X (tree c ss r) =
      record { here : x c + P ≡ b + X; next : Spread b P (X + stride al (around t al c (traces t al ss)) (traces t al r)) r }

  -- the placement is our sheet: the children of each parent stand at their offsets
  abbrev pub Ours : Forest → Type 0
  Ours none = Unit {0}
  Ours (tree c ss r) = record { spread : Spread (x c) (middle t al c (traces t al ss)) 0 ss; children : Ours ss; rest : Ours r }
