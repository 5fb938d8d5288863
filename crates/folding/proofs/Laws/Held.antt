-- What is kept of the joined children: its rows by number, and how large it gets. The widths bound it. Assumes nothing.
use Prim.Native.Nat.{ℕ, zero, suc, ◌+◌, ◌-◌, ◌≤◌, ◌<◌, max}
use Rattle.std.specs.Prelude.{Bool, [], map, ◌≡◌, length}
use Rattle.std.proofs.Math.Bool.{true, false, cond}
use Rattle.std.proofs.Math.Path.{refl, sym}
use Rattle.std.proofs.Common.{◌∙◌}
use native.Mathlib.Omega.{arith}
use Rattle.std.proofs.Math.Dec.{ltb}
use borrow.Author.Tests.{ltb-true, ltb-false}
use Rattle.std.proofs.Math.ListN.{get_or, length-map}
use Rattle.contours.specs.Contour.{Contour, greatest}
use Rattle.contours.proofs.Laws.Contour.{separation_apart}
use Rattle.contours.proofs.Laws.Heights.{length-cover}
use Rattle.contours.proofs.Laws.Spans.{separation-most}
use Rattle.folding.proofs.Laws.Join.{Merge, upto, beyond, near, separation_to}
use Rattle.folding.proofs.Laws.Fold.{Tally, fresh, first, later, side, add_at, add, boxed}
use Rattle.folding.proofs.Laws.Lists.{get_past, get_greatest, greatest-below, greatest-same, get_map, get_cover, get_box, length-box}

-- ---- rows by number
module _ (s : Merge) (p : Contour) (g : ℕ) where
  pub upto_left : (j : ℕ) → get_or (upto s p g).left j 0 ≡ cond (ltb j (length s.left)) (max (get_or s.left j 0 + g) (get_or p.left j 0)) (get_or p.left j 0)
  unfolding upto
  upto_left j = get_cover _ p.left j ∙ rw (get_map (λ v. v + g) s.left j) (go (ltb j (length s.left)))
    where
      go : (b : Bool) → max (cond b (get_or s.left j 0 + g) 0) (get_or p.left j 0) ≡ cond b (max (get_or s.left j 0 + g) (get_or p.left j 0)) (get_or p.left j 0)
      go true = refl
      go false = omega arith

  upto-right : ((j : ℕ) → get_or s.right j 0 ≤ g) → (j : ℕ) → get_or (upto s p g).right j 0 ≡ get_or p.right j 0
  unfolding upto
  upto-right h j = get_cover _ p.right j ∙ rw (get_map (λ v. v - g) s.right j) (go (ltb j (length s.right)))
    where
      go : (b : Bool) → max (cond b (get_or s.right j 0 - g) 0) (get_or p.right j 0) ≡ get_or p.right j 0
      go true = omega (arith, h j)
      go false = omega arith

  beyond-left : ((j : ℕ) → get_or p.left j 0 ≤ s.past + g) → (j : ℕ) → get_or (beyond s p g).left j 0 ≡ get_or s.left j 0
  unfolding beyond
  beyond-left h j = get_cover s.left _ j ∙ rw (get_map (λ v. v - (s.past + g)) p.left j) (go (ltb j (length p.left)))
    where
      go : (b : Bool) → max (get_or s.left j 0) (cond b (get_or p.left j 0 - (s.past + g)) 0) ≡ get_or s.left j 0
      go true = omega (arith, h j)
      go false = omega arith

  beyond-right : ((j : ℕ) → get_or s.right j 0 ≤ s.past + g) → (j : ℕ)
      → get_or (beyond s p g).right j 0 ≡ cond (ltb j (length p.right)) (s.past + g + get_or p.right j 0) (get_or s.right j 0)
  unfolding beyond
  beyond-right h j = get_cover s.right _ j ∙ rw (get_map (λ v. s.past + g + v) p.right j) (go (ltb j (length p.right)))
    where
      go : (b : Bool) → max (get_or s.right j 0) (cond b (s.past + g + get_or p.right j 0) 0) ≡ cond b (s.past + g + get_or p.right j 0) (get_or s.right j 0)
      go true = omega (arith, h j)
      go false = omega arith

  pub upto_past : (upto s p g).past ≡ 0
  unfolding upto
  upto_past = refl

  pub beyond_past : (beyond s p g).past ≡ s.past + g
  unfolding beyond
  beyond_past = refl

  pub upto_tall : length (upto s p g).left ≡ max (length s.left) (length p.left)
  unfolding upto
  upto_tall = length-cover (map (λ v. v + g) s.left) p.left ∙ rw length-map

  upto-even : length (upto s p g).right ≡ max (length s.right) (length p.right)
  unfolding upto
  upto-even = length-cover (map (λ v. v - g) s.right) p.right ∙ rw length-map

  pub beyond_tall : length (beyond s p g).left ≡ max (length s.left) (length p.left)
  unfolding beyond
  beyond_tall = length-cover s.left (map (λ v. v - (s.past + g)) p.left) ∙ rw length-map

  beyond-even : length (beyond s p g).right ≡ max (length s.right) (length p.right)
  unfolding beyond
  beyond-even = length-cover s.right (map (λ v. s.past + g + v) p.right) ∙ rw length-map

near_get : (s : Merge) (j : ℕ) → get_or (near s) j 0 ≡ get_or s.right j 0 - s.past
unfolding near
near_get s j = get_map (λ v. v - s.past) s.right j ∙ go (ltb j (length s.right)) refl
  where
    go : (b : Bool) → ltb j (length s.right) ≡ b → cond b (get_or s.right j 0 - s.past) 0 ≡ get_or s.right j 0 - s.past
    go true e = refl
    go false e = omega (arith, get_past s.right j (ltb-false j (length s.right) e))

-- ---- bounds
-- what is kept of children whose widths, each with one more, sum up to n, where m is the appointed place
pub record Held (m : ℕ) (a : Tally) (n : ℕ) : Type 0 where
  pub wide : greatest a.merge.left + a.merge.past + a.edge ≤ n
  pub far : a.far + a.edge ≤ n
  pub behind : a.merge.past ≤ a.far
  pub flat : a.done ≤ suc m → a.merge.past ≡ 0
  pub right : (j : ℕ) → get_or a.merge.right j 0 ≤ a.merge.past + a.edge
  pub even : length a.merge.right ≡ length a.merge.left
  pub none : a.done ≡ 0 → length a.merge.left ≡ 0
  pub seen : a.edge ≡ greatest (near a.merge)

-- the contour of a child whose subtree has such a sum
pub record Fits (p : Contour) (n : ℕ) : Type 0 where
  pub wide : greatest p.left + greatest p.right + 1 ≤ n
  pub even : length p.right ≡ length p.left

pub held_fresh : (m : ℕ) → Held m fresh 0
unfolding greatest near
held_fresh m =
    record { wide = omega arith; far = omega arith; behind = omega arith; flat = λ l. refl; right = λ j. omega arith; even = refl; none = λ e. refl; seen = refl }

-- the distance of the next child lies between these
pub record Between (a : Tally) (p : Contour) (g : ℕ) : Type 0 where
  pub most : g ≤ a.edge + greatest p.left + 1
  pub past_latest : a.edge < g
  pub past_left : greatest p.left < g

module _ (al m : ℕ) (a : Tally) (p : Contour) (n : ℕ) (h : Held m a n) where
  pub between : Between a p (separation_to al a.merge p)
  unfolding separation_to
  between =
      let o : Contour = record { left = []; right = near a.merge } in
      let d = separation_apart al o p in
      let l = separation-most al o p in
      let e = h.seen in
      record { most = omega arith; past_latest = omega (arith, d.ends); past_left = omega (arith, d.starts) }

  -- the row laws apply to what is held
  module _ (g : ℕ) (b : Between a p g) where
    pub held_upto_right : a.done ≤ m → (j : ℕ) → get_or (upto a.merge p g).right j 0 ≡ get_or p.right j 0
    held_upto_right l = let z = h.flat (omega arith) in upto-right a.merge p g (λ j. omega (arith, h.right j))

    pub held_beyond_left : (j : ℕ) → get_or (beyond a.merge p g).left j 0 ≡ get_or a.merge.left j 0
    held_beyond_left = beyond-left a.merge p g (λ j. omega (arith, get_greatest p.left j))

    pub held_beyond_right : (j : ℕ) → get_or (beyond a.merge p g).right j 0 ≡ cond (ltb j (length p.right)) (a.merge.past + g + get_or p.right j 0) (get_or a.merge.right j 0)
    held_beyond_right = beyond-right a.merge p g (λ j. omega (arith, h.right j))

  module _ (w : ℕ) (f : Fits p w) where
    held_first : Held m (first p) (n + w)
    unfolding near
    held_first =
        record {
          wide = omega (arith, f.wide);
          far = omega (arith, f.wide);
          behind = omega arith;
          flat = λ l. refl;
          right = λ j. omega (arith, get_greatest p.right j);
          even = f.even;
          none = λ e. absurd (omega (arith, e));
          seen = greatest-same p.right _ (λ j. sym (near_get (first p).merge j ∙ omega arith));
        }

    held_upto : (g : ℕ) → Between a p g → a.done ≤ m → Held m (later a p g (upto a.merge p g)) (n + w)
    held_upto g b l =
        let z = upto_past a.merge p g in
        let top : greatest (upto a.merge p g).left ≤ max (greatest a.merge.left + g) (greatest p.left) =
        greatest-below _ _ (λ j. rw (upto_left a.merge p g j) (go j (ltb j (length a.merge.left)))) in
        record {
          wide = omega (arith, h.wide, f.wide);
          far = omega (arith, h.far, f.wide);
          behind = omega arith;
          flat = λ l. z;
          right = λ j. rw (held_upto_right g b l j) (omega (arith, get_greatest p.right j));
          even = upto-even a.merge p g ∙ rw (f.even, h.even) (sym (upto_tall a.merge p g));
          none = λ e. absurd (omega (arith, e));
          seen = greatest-same p.right _ (λ j. sym (near_get (upto a.merge p g) j ∙ rw (held_upto_right g b l j, z) (omega arith)));
        }
      where
        go : (j : ℕ) (z : Bool) → cond z (max (get_or a.merge.left j 0 + g) (get_or p.left j 0)) (get_or p.left j 0) ≤ max (greatest a.merge.left + g) (greatest p.left)
        go j true = omega (arith, get_greatest a.merge.left j, get_greatest p.left j)
        go j false = omega (arith, get_greatest p.left j)

    held_beyond : (g : ℕ) → Between a p g → m < a.done → Held m (later a p g (beyond a.merge p g)) (n + w)
    held_beyond g b l =
        let z = beyond_past a.merge p g in
        let top : greatest (beyond a.merge p g).left ≤ greatest a.merge.left =
        greatest-below _ _ (λ j. rw (held_beyond_left g b j) (get_greatest a.merge.left j)) in
        record {
          wide = omega (arith, h.wide, f.wide);
          far = omega (arith, h.far, f.wide);
          behind = omega (arith, h.behind);
          flat = λ k. absurd (omega (arith, k));
          right = λ j. rw (held_beyond_right g b j, z) (go j (ltb j (length p.right)));
          even = beyond-even a.merge p g ∙ rw (f.even, h.even) (sym (beyond_tall a.merge p g));
          none = λ e. absurd (omega (arith, e));
          seen = greatest-same p.right _ (λ j. sym (near_get (beyond a.merge p g) j ∙ rw (held_beyond_right g b j, z) (see j (ltb j (length p.right)) refl)));
        }
      where
        go : (j : ℕ) (z : Bool) → cond z (a.merge.past + g + get_or p.right j 0) (get_or a.merge.right j 0) ≤ a.merge.past + g + greatest p.right
        go j true = omega (arith, get_greatest p.right j)
        go j false = omega (arith, h.right j)

        see : (j : ℕ) (z : Bool) → ltb j (length p.right) ≡ z → cond z (a.merge.past + g + get_or p.right j 0) (get_or a.merge.right j 0) - (a.merge.past + g) ≡ get_or p.right j 0
        see j true e = omega arith
        see j false e = omega (arith, h.right j, get_past p.right j (ltb-false j (length p.right) e))

    pub held_add : Held m (add al m a p) (n + w)
    unfolding add
    held_add = go a.done refl
      where
        by : (d : ℕ) → a.done ≡ suc d → (z : Bool) → ltb m (suc d) ≡ z → Held m (later a p (separation_to al a.merge p) (side z a.merge p (separation_to al a.merge p))) (n + w)
        by d e true q = held_beyond _ between (omega (arith, ltb-true m (suc d) q))
        by d e false q = held_upto _ between (omega (arith, ltb-false m (suc d) q))

        go : (d : ℕ) → a.done ≡ d → Held m (add_at al m d a p) (n + w)
        go zero e = held_first
        go (suc d) e = by d e (ltb m (suc d)) refl

pub add_tall : (al m : ℕ) (a : Tally) (p : Contour) → length (add al m a p).merge.left ≤ max (length a.merge.left) (length p.left)
unfolding add
add_tall al m a p = go a.done
  where
    by : (g : ℕ) (b : Bool) → length (side b a.merge p g).left ≤ max (length a.merge.left) (length p.left)
    by g true = omega (arith, beyond_tall a.merge p g)
    by g false = omega (arith, upto_tall a.merge p g)

    go : (d : ℕ) → length (add_at al m d a p).merge.left ≤ max (length a.merge.left) (length p.left)
    go zero = omega arith
    go (suc d) = by (separation_to al a.merge p) (ltb m (suc d))

pub add_done : (al m : ℕ) (a : Tally) (p : Contour) → (add al m a p).done ≡ suc a.done
unfolding add
add_done al m a p = go a.done refl
  where
    go : (d : ℕ) → a.done ≡ d → (add_at al m d a p).done ≡ suc a.done
    go zero e = rw e
    go (suc d) e = refl

-- a box over what is held
pub box-fits : (d w m : ℕ) (a : Tally) (n : ℕ) → Held m a n → Fits (boxed d w a) ((w + 1) + n)
box-fits d w m a n h =
    let l : greatest (boxed d w a).left ≤ greatest a.merge.left =
    greatest-below _ _ (λ j. rw (get_box (d + 1) 0 a.merge.left j) (go_l j (ltb j (d + 1)))) in
    let r : greatest (boxed d w a).right ≤ max w (a.merge.past + a.edge) =
    greatest-below _ _ (λ j. rw (get_box (d + 1) w a.merge.right j) (go_r j (ltb j (d + 1)))) in
    record { wide = omega (arith, h.wide); even = rw (length-box, length-box, h.even) }
  where
    go_l : (j : ℕ) (b : Bool) → cond b 0 (get_or a.merge.left (j - (d + 1)) 0) ≤ greatest a.merge.left
    go_l j true = omega arith
    go_l j false = get_greatest a.merge.left (j - (d + 1))

    go_r : (j : ℕ) (b : Bool) → cond b w (get_or a.merge.right (j - (d + 1)) 0) ≤ max w (a.merge.past + a.edge)
    go_r j true = omega arith
    go_r j false = omega (arith, h.right (j - (d + 1)))
