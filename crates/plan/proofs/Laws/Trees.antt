-- Columns that the code computes from a table's: children, levels and rows. Nothing that a reader must believe stands here. Assumes nothing.
use Rattle.std.specs.Prelude.{◌≡◌, List, [], ◌∷◌, Bool, cond, set}
use Rattle.std.proofs.Math.Path.{refl, ap}
use Rattle.std.proofs.Common.{sym, ◌∙◌}
use Rattle.std.proofs.Math.Bool.{true, false}
use Prim.Native.Nat.{ℕ, zero, suc, pred, ◌+◌, ◌-◌, ◌*◌, ◌≤◌, ◌<◌}
use native.Mathlib.Omega.{arith}
use Rattle.std.proofs.Math.Decide.{ℕ_discrete}
use Rattle.std.proofs.Math.ListN.{length, get_or}
use Rattle.std.proofs.Math.Seq.{get_or-set_same, get_or-set_other}
use Rattle.std.proofs.Math.Dec.{eqb}
use borrow.Author.Tests.{eq-eqb, ne_eqb}
use Rattle.plan.specs.Lists.{At, from, keep}
use Rattle.plan.specs.Plan.{Table, Is, Sound, parent, box_depth, filed, children, path, level, row}
use Rattle.plan.proofs.Laws.Plan.{child-read, children-length}
use Rattle.plan.specs.Limits.{most_depth, most_cells}
use Rattle.plan.proofs.Laws.Paths.{lower, from_parents, path_zero, path_suc, row_suc}
use Rattle.plan.specs.Columns.{table}
use Rattle.plan.proofs.Laws.Columns.{table-length, parent-at, depth_at}
use Rattle.plan.specs.Trees.{Lower, Flat}

pub parent_few : {ps : List ℕ} {n c : ℕ} → Lower ps n → 1 ≤ c → c < n → get_or ps c 0 < most_cells
parent_few {ps} {n} {c} h b l = omega (arith, h.lower c b l, h.few)

pub lower-sound : (ps ks ws ds qs : List ℕ) (n : ℕ) → Lower ps n → Sound (table ps ks ws ds qs n)
lower-sound ps ks ws ds qs n h c p q =
    let l : c < n = rw (table-length ps ks ws ds qs n) at q in
    rw (parent-at ps ks ws ds qs n c l) (h.lower c p l)

-- ---- children: how many of the cells 1 to m have the parent f
abbrev pub hit : Bool → ℕ
hit true = 1
hit false = 0

unfoldable pub seen : List ℕ → ℕ → ℕ → ℕ
seen ps zero f = 0
seen ps (suc m) f = seen ps m f + hit (eqb (get_or ps (suc m) 0) f)

pub seen_most : (ps : List ℕ) (m f : ℕ) → seen ps m f ≤ m
unfolding seen
seen_most ps zero f = omega arith
seen_most ps (suc m) f = go (eqb (get_or ps (suc m) 0) f) (seen_most ps m f)
  where
    go : (b : Bool) → seen ps m f ≤ m → seen ps m f + hit b ≤ suc m
    go true h = omega arith
    go false h = omega arith

length-cond : (b : Bool) (a : ℕ) (l : List ℕ) → length (cond b (a ∷ l) l) ≡ hit b + length l
length-cond true a l = omega arith
length-cond false a l = omega arith

-- the last cell of a range counts as the first does
keep_last : (P : ℕ → Bool) (k d : ℕ) → length (keep P (from k (suc d))) ≡ length (keep P (from k d)) + hit (P (k + d))
unfolding keep from
keep_last P k zero = let e : k + 0 ≡ k = omega arith in rw e (omega (arith, length-cond (P k) k []))
keep_last P k (suc d) =
    let e : k + suc d ≡ suc k + d = omega arith in
    rw e (omega (arith, length-cond (P k) k (keep P (from (suc k) (suc d))), length-cond (P k) k (keep P (from (suc k) d)), keep_last P (suc k) d))

seen-keep : (ps : List ℕ) (P : ℕ → Bool) (f m : ℕ) → ((s : ℕ) → 1 ≤ s → s ≤ m → P s ≡ eqb (get_or ps s 0) f) → length (keep P (from 1 m)) ≡ seen ps m f
unfolding seen keep from
seen-keep ps P f zero h = refl
seen-keep ps P f (suc m) h =
    let e : 1 + m ≡ suc m = omega arith in
    let k = keep_last P 1 m in
    let z = rw (e, h (suc m) (omega arith) (omega arith)) at k in
    z ∙ ap (λ (x : ℕ). x + hit (eqb (get_or ps (suc m) 0) f)) (seen-keep ps P f m (λ s p q. h s p (omega arith)))

pub seen-children : (ps ks ws ds qs : List ℕ) (n f : ℕ) → seen ps (n - 1) f ≡ length (children (table ps ks ws ds qs n) f)
unfolding filed
seen-children ps ks ws ds qs n f =
    let e : pred (length (table ps ks ws ds qs n)) ≡ n - 1 = omega (arith, table-length ps ks ws ds qs n) in
    rw (children-length (table ps ks ws ds qs n) f, e) (sym (seen-keep ps (λ s. eqb (parent (table ps ks ws ds qs n) s) f) f (n - 1)
    (λ s p q. ap (λ (x : ℕ). eqb x f) (parent-at ps ks ws ds qs n s (omega arith)))))

-- one cell more is counted
module _ (ps xs : List ℕ) (n c : ℕ) (h : Lower ps n) (p : 1 ≤ c) (l : c < n) (long : length xs ≡ most_cells) (so : (f : ℕ) → f < most_cells → get_or xs f 0 ≡ seen ps (c - 1) f) where
  pub seen_more : (f : ℕ) → f < most_cells → get_or (set xs (get_or ps c 0) (get_or xs (get_or ps c 0) 0 + 1)) f 0 ≡ seen ps (c + 1 - 1) f
  unfolding seen
  seen_more f g = go c refl (ℕ_discrete (get_or ps c 0) f)
    where
      go : (c' : ℕ) → c ≡ c' → Dec (get_or ps c 0 ≡ f) → get_or (set xs (get_or ps c 0) (get_or xs (get_or ps c 0) 0 + 1)) f 0 ≡ seen ps (c + 1 - 1) f
      go zero e d = absurd (omega arith)
      go (suc m) e (yes d) =
          let a : c + 1 - 1 ≡ suc m = omega arith in
          let z : c - 1 ≡ m = omega arith in
          let w : eqb (get_or ps (suc m) 0) f ≡ true = eq-eqb _ _ (ap (λ (x : ℕ). get_or ps x 0) (sym e) ∙ d) in
          let v = rw z at (so f g) in
          rw (a, d, get_or-set_same xs f (get_or xs f 0 + 1) 0 (omega arith)) (rw w (ap (λ (x : ℕ). x + 1) v))
      go (suc m) e (no d) =
          let a : c + 1 - 1 ≡ suc m = omega arith in
          let z : c - 1 ≡ m = omega arith in
          let w : eqb (get_or ps (suc m) 0) f ≡ false = ne_eqb _ _ (λ q. d (ap (λ (x : ℕ). get_or ps x 0) e ∙ q)) in
          let v = rw z at (so f g) in
          rw (a, get_or-set_other xs (get_or ps c 0) f (get_or xs (get_or ps c 0) 0 + 1) 0 (λ q. d (sym q))) (rw w (omega arith))

-- ---- levels and rows: from parents to children
module _ (t : Table) (sound : Sound t) where
  path-level : (a : ℕ) → length (path t a) ≡ suc (level t a)
  unfolding level
  path-level zero = ap length (path_zero t sound)
  path-level (suc m) = ap length (path_suc t sound m)

  pub level_suc : (m : ℕ) → level t (suc m) ≡ suc (level t (parent t (suc m)))
  unfolding level
  level_suc m = path-level (parent t (suc m))

  pub level-child : (c i s : ℕ) → At (children t c) i s → level t s ≡ suc (level t c)
  level-child c i s h = go s (child-read t c i s h).low (child-read t c i s h).of
    where
      go : (s : ℕ) → 1 ≤ s → parent t s ≡ c → level t s ≡ suc (level t c)
      go zero l e = absurd (omega arith)
      go (suc m) l e = level_suc m ∙ ap (λ (a : ℕ). suc (level t a)) e

  pub level-most : (a : ℕ) → level t a ≤ a
  level-most = from_parents t sound (λ a. level t a ≤ a) (unfold level in omega arith) (λ m g. omega (arith, level_suc m, lower t sound m))

  pub row-most : ((c : ℕ) → Is t c → box_depth t c ≤ most_depth) → (a : ℕ) → Is t a → row t a ≤ 16 * a
  row-most flat = from_parents t sound (λ a. Is t a → row t a ≤ 16 * a) (λ i. unfold row in omega arith)
      (λ m g i. let j : Is t (parent t (suc m)) = omega (arith, lower t sound m) in omega (arith, row_suc t sound m, lower t sound m, g j, flat (parent t (suc m)) j))

-- a column that grows from parents to children: the value at a cell is made of its parent's
module _ (ps xs : List ℕ) (n c : ℕ) (h : Lower ps n) (p : 1 ≤ c) (l : c < n) (long : length xs ≡ most_cells) (f : ℕ → ℕ) (so : (x : ℕ) → x < c → get_or xs x 0 ≡ f x) where
  pub parent_so : get_or xs (get_or ps c 0) 0 ≡ f (get_or ps c 0)
  parent_so = so (get_or ps c 0) (h.lower c p l)

  pub one_more : (v : ℕ) → v ≡ f c → (x : ℕ) → x < c + 1 → get_or (set xs c v) x 0 ≡ f x
  one_more v e x g = go (ℕ_discrete x c)
    where
      go : Dec (x ≡ c) → get_or (set xs c v) x 0 ≡ f x
      go (yes d) = rw d (get_or-set_same xs c v 0 (omega (arith, h.few)) ∙ e)
      go (no d) = get_or-set_other xs c x v 0 d ∙ so x (omega arith)

module _ (ps ks ws ds qs : List ℕ) (n : ℕ) (h : Lower ps n) where
  pub level-next : (c : ℕ) → 1 ≤ c → c < n → level (table ps ks ws ds qs n) c ≡ level (table ps ks ws ds qs n) (get_or ps c 0) + 1
  level-next zero p l = absurd (omega arith)
  level-next (suc m) p l =
      let t = table ps ks ws ds qs n in
      level_suc t (lower-sound ps ks ws ds qs n h) m ∙ rw (parent-at ps ks ws ds qs n (suc m) l) (omega arith)

  pub level_small : (c : ℕ) → level (table ps ks ws ds qs n) c ≤ c
  level_small = level-most (table ps ks ws ds qs n) (lower-sound ps ks ws ds qs n h)

  pub row_small : Flat ds n → (c : ℕ) → c < n → row (table ps ks ws ds qs n) c ≤ 16 * c
  row_small flat c l =
      row-most (table ps ks ws ds qs n) (lower-sound ps ks ws ds qs n h)
      (λ a i. let k : a < n = rw (table-length ps ks ws ds qs n) at i in rw (depth_at ps ks ws ds qs n a k) (flat.flat a k)) c (rw (table-length ps ks ws ds qs n) l)

  pub row_next : (c : ℕ) → 1 ≤ c → c < n → row (table ps ks ws ds qs n) c ≡ row (table ps ks ws ds qs n) (get_or ps c 0) + get_or ds (get_or ps c 0) 0 + 1
  row_next zero p l = absurd (omega arith)
  row_next (suc m) p l =
      let g : get_or ps (suc m) 0 < n = omega (arith, h.lower (suc m) p l) in
      row_suc (table ps ks ws ds qs n) (lower-sound ps ks ws ds qs n h) m ∙ rw (parent-at ps ks ws ds qs n (suc m) l, depth_at ps ks ws ds qs n (get_or ps (suc m) 0) g) (omega arith)

  module _ (xs : List ℕ) (c : ℕ) (b : 1 ≤ c) (l : c < n) (long : length xs ≡ most_cells) where
    pub level_value : ((x : ℕ) → x < c → get_or xs x 0 ≡ level (table ps ks ws ds qs n) x) → get_or xs (get_or ps c 0) 0 + 1 ≡ level (table ps ks ws ds qs n) c
    level_value so = rw (parent_so ps xs n c h b l long (level (table ps ks ws ds qs n)) so) (sym (level-next c b l))

    pub level-more : ((x : ℕ) → x < c → get_or xs x 0 ≡ level (table ps ks ws ds qs n) x)
        → (x : ℕ) → x < c + 1 → get_or (set xs c (get_or xs (get_or ps c 0) 0 + 1)) x 0 ≡ level (table ps ks ws ds qs n) x
    level-more so = one_more ps xs n c h b l long (level (table ps ks ws ds qs n)) so _ (level_value so)

    pub row_value : ((x : ℕ) → x < c → get_or xs x 0 ≡ row (table ps ks ws ds qs n) x) → get_or xs (get_or ps c 0) 0 + get_or ds (get_or ps c 0) 0 + 1 ≡ row (table ps ks ws ds qs n) c
    row_value so = rw (parent_so ps xs n c h b l long (row (table ps ks ws ds qs n)) so) (sym (row_next c b l))

    pub row_more : ((x : ℕ) → x < c → get_or xs x 0 ≡ row (table ps ks ws ds qs n) x)
        → (x : ℕ) → x < c + 1 → get_or (set xs c (get_or xs (get_or ps c 0) 0 + get_or ds (get_or ps c 0) 0 + 1)) x 0 ≡ row (table ps ks ws ds qs n) x
    row_more so = one_more ps xs n c h b l long (row (table ps ks ws ds qs n)) so _ (row_value so)

-- the root
pub first-only : (xs : List ℕ) (f : ℕ → ℕ) → get_or xs 0 0 ≡ f 0 → (x : ℕ) → x < 1 → get_or xs x 0 ≡ f x
first-only xs f e x h = let z : x ≡ 0 = omega arith in rw z e
