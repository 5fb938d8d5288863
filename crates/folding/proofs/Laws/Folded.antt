-- The engine's way of joining gives the contours, offsets and middles of the definition. Assumes nothing.
use Prim.Native.Nat.{ℕ, zero, suc, ◌+◌, ◌-◌, ◌≤◌, ◌<◌}
use mathlib.Core.List.{List, [], ◌∷◌, ◌++◌, map}
use Rattle.std.specs.Prelude.{◌≡◌, ltb, take}
use Rattle.std.proofs.Math.Path.{refl, ap}
use Rattle.std.proofs.Common.{sym, ◌∙◌, take_all, length-take-le, lt-ltb, le-ltb}
use native.Mathlib.Omega.{arith}
use Rattle.std.proofs.Math.ListN.{length, replicate, length-map}
use Rattle.std.proofs.Math.Decide.{dec_lt}
use Rattle.plan.specs.Lists.{At}
use Rattle.plan.proofs.Laws.Lists.{at_less}
use Rattle.plan.specs.Plan.{Table, Sound, box_width, box_depth, children, place}
use Rattle.plan.proofs.Laws.Plan.{place-below}
use Rattle.contours.specs.Contour.{Contour, separation, stride, offset, lefts, rights, contour}
use Rattle.contours.specs.Sheet.{middle, around, contours, whole_contour}
use Rattle.contours.proofs.Laws.Sheet.{contours_are}
use Rattle.folding.proofs.Laws.Join.{Merge, upto, beyond, separation_to, joined, joined_is, Near, near-separation, near-beyond, near-upto, first-near}
use Rattle.folding.proofs.Laws.Fold.{Tally, fresh, first, later, side, add_at, add, add_all, boxed, partial}
use Rattle.folding.proofs.Laws.Held.{upto_past, beyond_past, add_done}

-- o is the latest of the children joined, of which number m is the appointed one
record Latest (m : ℕ) (a : Tally) (o : Contour) : Type 0 where
  some : 0 < a.done
  flat : a.done ≤ suc m → a.merge.past ≡ 0
  near : Near a.merge o

module _ (al : ℕ) where
  latest_first : (m : ℕ) (o : Contour) → Latest m (first o) o
  latest_first m o = record { some = omega arith; flat = λ l. refl; near = first-near al o }

  -- a child that is not the first
  module _ (m : ℕ) (a : Tally) (p : Contour) where
    add-later : 0 < a.done → add al m a p ≡ later a p (separation_to al a.merge p) (side (ltb m a.done) a.merge p (separation_to al a.merge p))
    unfolding add
    add-later l = go a.done refl l
      where
        go : (d : ℕ) → a.done ≡ d → 0 < d → add_at al m d a p ≡ later a p (separation_to al a.merge p) (side (ltb m d) a.merge p (separation_to al a.merge p))
        go zero e l = absurd (omega arith)
        go (suc d) e l = refl

    -- up to the appointed one
    add-upto : 0 < a.done → a.done ≤ m → add al m a p ≡ later a p (separation_to al a.merge p) (upto a.merge p (separation_to al a.merge p))
    add-upto l k = add-later l ∙ rw (le-ltb m a.done k)

    -- beyond it
    add-beyond : 0 < a.done → m < a.done → add al m a p ≡ later a p (separation_to al a.merge p) (beyond a.merge p (separation_to al a.merge p))
    add-beyond l k = add-later l ∙ rw (lt-ltb m a.done k)

    module _ (o : Contour) (h : Latest m a o) where
      -- it stands at its separation from the one before it, and is the latest then
      add-far : (add al m a p).far ≡ a.far + separation al o p
      add-far = ap (λ (b : Tally). b.far) (add-later h.some) ∙ rw (near-separation al a.merge o p h.near)

      add_latest : Latest m (add al m a p) p
      add_latest = go (dec_lt m a.done)
        where
          e : separation_to al a.merge p ≡ separation al o p
          e = near-separation al a.merge o p h.near

          go : Dec (m < a.done) → Latest m (add al m a p) p
          go (yes l) = rw (add-beyond h.some l, e) (record { some = omega arith; flat = λ k. absurd (omega (arith, k)); near = near-beyond al a.merge o p h.near })
          go (no l) = rw (add-upto h.some (omega arith), e) (record { some = omega arith; flat = λ k. upto_past a.merge p _; near = near-upto al a.merge o p (h.flat (omega arith)) h.near })

  -- ---- all the children
  -- their rows, with d children joined
  rows-from : (m : ℕ) (os : List Contour) (d : ℕ) (a : Tally) → a.done ≡ suc d → (add_all al m a os).merge ≡ joined al (m - d) a.merge os
  unfolding add_all joined
  rows-from m [] d a e = same (m - d)
    where
      same : (x : ℕ) → a.merge ≡ joined al x a.merge []
      same zero = refl
      same (suc x) = refl
  rows-from m (p ∷ ps) d a e = go (dec_lt m (suc d)) (rows-from m ps (suc d))
    where
      go : Dec (m < suc d) → ((b : Tally) → b.done ≡ suc (suc d) → (add_all al m b ps).merge ≡ joined al (m - suc d) b.merge ps)
          → (add_all al m (add al m a p) ps).merge ≡ joined al (m - d) a.merge (p ∷ ps)
      go (yes l) ih =
          let x : m - d ≡ 0 = omega arith in
          let y : m - suc d ≡ 0 = omega arith in
          let q : add al m a p ≡ later a p (separation_to al a.merge p) (beyond a.merge p (separation_to al a.merge p)) = add-beyond m a p (omega arith) (omega arith) in
          rw (q, x) (rw y at (ih (later a p (separation_to al a.merge p) (beyond a.merge p (separation_to al a.merge p))) (ap suc e)))
      go (no l) ih =
          let x : m - d ≡ suc (m - suc d) = omega arith in
          let q : add al m a p ≡ later a p (separation_to al a.merge p) (upto a.merge p (separation_to al a.merge p)) = add-upto m a p (omega arith) (omega arith) in
          rw (q, x) (ih (later a p (separation_to al a.merge p) (upto a.merge p (separation_to al a.merge p))) (ap suc e))

  -- the appointed child keeps its distance from the first
  middle-kept : (m : ℕ) (os : List Contour) (a : Tally) → m < a.done → (add_all al m a os).far - (add_all al m a os).merge.past ≡ a.far - a.merge.past
  unfolding add_all
  middle-kept m [] a l = refl
  middle-kept m (p ∷ ps) a l =
      let q = add-beyond m a p (omega arith) l in
      let n = ap (λ (b : Tally). b.done) q in
      let f = ap (λ (b : Tally). b.far) q in
      let b = ap (λ (b : Tally). b.merge.past) q ∙ beyond_past a.merge p _ in
      middle-kept m ps (add al m a p) (omega arith) ∙ omega arith

  middle-from : (m : ℕ) (os : List Contour) (a : Tally) (o : Contour) → Latest m a o → a.done ≤ suc m → suc m ≤ a.done + length os
      → (add_all al m a os).far - (add_all al m a os).merge.past ≡ offset al a.far (o ∷ os) (suc m - a.done)
  unfolding add_all offset stride
  middle-from m [] a o h l k =
      let x : suc m - a.done ≡ 0 = omega arith in
      let z = h.flat l in
      rw x (omega arith)
  middle-from m (p ∷ ps) a o h l k = go (dec_lt m a.done) (middle-from m ps (add al m a p) p (add_latest m a p o h))
    where
      go : Dec (m < a.done)
          → ((add al m a p).done ≤ suc m → suc m ≤ (add al m a p).done + length ps → (add_all al m (add al m a p) ps).far - (add_all al m (add al m a p) ps).merge.past ≡ offset al (add al m a p).far (p ∷ ps) (suc m - (add al m a p).done))
          → (add_all al m (add al m a p) ps).far - (add_all al m (add al m a p) ps).merge.past ≡ offset al a.far (o ∷ p ∷ ps) (suc m - a.done)
      go (yes j) ih =
          let x : suc m - a.done ≡ 0 = omega arith in
          let z = h.flat l in
          let s = middle-kept m (p ∷ ps) a j in
          rw x (s ∙ omega arith)
      go (no j) ih =
          let n = ap (λ (b : Tally). b.done) (add-upto m a p h.some (omega arith)) in
          let x : suc m - a.done ≡ suc (m - a.done) = omega arith in
          let y : suc m - suc a.done ≡ m - a.done = omega arith in
          rw x (ih (omega arith) (omega arith) ∙ rw (n, y, add-far m a p o h))

  module _ (o : Contour) (os : List Contour) (m : ℕ) (l : m ≤ length os) where
    fold-rows : ((add_all al m fresh (o ∷ os)).merge.left ≡ lefts al (offset al 0 (o ∷ os) m) 0 (o ∷ os)) × ((add_all al m fresh (o ∷ os)).merge.right ≡ rights al (offset al 0 (o ∷ os) m) 0 (o ∷ os))
    unfolding add_all add
    fold-rows =
        let z : m - 0 ≡ m = omega arith in
        let r = rw z at (rows-from m os 0 (first o) refl) in
        let j = joined_is al o os m l in
        (ap (λ (s : Merge). s.left) r ∙ j.0, ap (λ (s : Merge). s.right) r ∙ j.1)

    fold-middle : (add_all al m fresh (o ∷ os)).far - (add_all al m fresh (o ∷ os)).merge.past ≡ offset al 0 (o ∷ os) m
    unfolding add_all add
    fold-middle =
        let z : suc m - 1 ≡ m = omega arith in
        rw z at (middle-from m os (first o) o (latest_first m o) (omega arith) (omega arith))

  -- ---- one child after another
  -- the next one
  add-next : (f : ℕ → Contour) (m : ℕ) (a : Tally) (cs : List ℕ) (i c : ℕ) → At cs i c → add_all al m a (take (suc i) (map f cs)) ≡ add al m (add_all al m a (take i (map f cs))) (f c)
  unfolding add_all
  add-next f m a [] i c h = absurd h
  add-next f m a (x ∷ cs) zero c h = rw h
  add-next f m a (x ∷ cs) (suc i) c h = add-next f m (add al m a (f x)) cs i c h

  -- where each stands
  far_from : (m : ℕ) (os : List Contour) (i : ℕ) (a : Tally) (o : Contour) → Latest m a o → i < length os
      → (add_all al m a (take (suc i) os)).far ≡ offset al (a.far + stride al o os) os i
  unfolding add_all offset stride
  far_from m [] i a o h l = absurd (omega arith)
  far_from m (p ∷ ps) zero a o h l = add-far m a p o h
  far_from m (p ∷ ps) (suc i) a o h l = far_from m ps i (add al m a p) p (add_latest m a p o h) (omega arith) ∙ rw (add-far m a p o h)

  far_at : (m : ℕ) (os : List Contour) (i : ℕ) → i < length os → (add_all al m fresh (take (suc i) os)).far ≡ offset al 0 os i
  unfolding add_all add offset
  far_at m [] i l = absurd (omega arith)
  far_at m (o ∷ os) zero l = refl
  far_at m (o ∷ os) (suc i) l = far_from m os i (first o) o (latest_first m o) (omega arith)

  done_at : (m : ℕ) (a : Tally) (os : List Contour) → (add_all al m a os).done ≡ a.done + length os
  unfolding add_all
  done_at m a [] = omega arith
  done_at m a (o ∷ os) = omega (arith, done_at m (add al m a o) os, add_done al m a o)

-- ---- the children of c
module _ (t : Table) (al c : ℕ) where
  box_of : (os : List Contour) → boxed (box_depth t c) (box_width t c) (add_all al (place t c (length os)) fresh os) ≡ around t al c os
  unfolding around contour middle add_all lefts rights
  box_of [] = refl
  box_of (o ∷ os) =
      let f = fold-rows al o os (place t c (length (o ∷ os))) (omega (arith, place-below t c (length (o ∷ os)) (omega arith))) in
      λ i. record { left = replicate (box_depth t c + 1) 0 ++ f.0 i; right = replicate (box_depth t c + 1) (box_width t c) ++ f.1 i }

  middle_of : (os : List Contour) → (add_all al (place t c (length os)) fresh os).far - (add_all al (place t c (length os)) fresh os).merge.past ≡ middle t al c os
  unfolding middle add_all offset
  middle_of [] = refl
  middle_of (o ∷ os) = fold-middle al o os (place t c (length (o ∷ os))) (omega (arith, place-below t c (length (o ∷ os)) (omega arith)))

  pub contours-length : length (contours t al c) ≡ length (children t c)
  unfolding contours
  contours-length = simp length-map

  pub partial-none : partial t al c 0 ≡ fresh
  unfolding add_all
  partial-none = go (contours t al c)
    where
      go : (os : List Contour) → add_all al (place t c (length (contours t al c))) fresh (take 0 os) ≡ fresh
      go [] = refl
      go (o ∷ os) = refl

  pub partial-next : Sound t → (i s : ℕ) → At (children t c) i s → add al (place t c (length (contours t al c))) (partial t al c i) (whole_contour t al s) ≡ partial t al c (suc i)
  partial-next sound i s h = rw (contours_are t sound al c) (sym (add-next al (whole_contour t al) _ fresh (children t c) i s h))

  pub partial-done : (i : ℕ) → i ≤ length (children t c) → (partial t al c i).done ≡ i
  partial-done i l = done_at al _ fresh (take i (contours t al c)) ∙ omega (arith, length-take-le i (contours t al c) (omega (arith, contours-length)))

  -- a child stands at its offset
  pub partial-far : (i s : ℕ) → At (children t c) i s → (partial t al c (suc i)).far ≡ offset al 0 (contours t al c) i
  partial-far i s h = far_at al _ (contours t al c) i (omega (arith, contours-length, at_less (children t c) i s h))

  module _ (i : ℕ) (all : i ≡ length (children t c)) where
    partial-all : partial t al c i ≡ add_all al (place t c (length (contours t al c))) fresh (contours t al c)
    partial-all = ap (add_all al (place t c (length (contours t al c))) fresh) (take_all i (contours t al c) (omega (arith, contours-length)))

    -- a box over all has the contour of the definition, and stands at its middle
    pub partial-box : boxed (box_depth t c) (box_width t c) (partial t al c i) ≡ whole_contour t al c
    partial-box = ap (boxed (box_depth t c) (box_width t c)) partial-all ∙ box_of (contours t al c)

    pub partial-middle : (partial t al c i).far - (partial t al c i).merge.past ≡ middle t al c (contours t al c)
    partial-middle = ap (λ (a : Tally). a.far - a.merge.past) partial-all ∙ middle_of (contours t al c)
