-- What the loops of the search keep. Assumes nothing.
use mathlib.Core.Path.{◌≡◌, refl, sym, ◌∙◌, ap}
use mathlib.Core.Bool.{Bool, true, false, cond}
use mathlib.Core.List.{List}
use Prim.Native.Nat.{ℕ, zero, suc, ◌+◌, ◌-◌, ◌^◌, ◌≤◌, ◌<◌}
use native.Mathlib.Omega.{arith}
use native.Mathlib.Decide.{dec_lt}
use native.Mathlib.Nat.{sub-zero}
use lib.ListN.{get_or}
use lib.Dec.{eqb, ltb}
use borrow.Author.Tests.{lt-ltb, le-ltb, eq-eqb, ne_eqb}
use Rattle.std.specs.Prelude.{Option, Some, None, is_some}
use Rattle.looking_sights.specs.Sights.{Sights, Sighted}
use Rattle.looking_sights.specs.declared.View.{View}
use Rattle.why_ties.specs.Ties.{Ready, rule_of, named}
use Rattle.why_layers.specs.Marks.{seek, among, leads_on, source, at_end, mark_first, mark_next}

-- ---- what a search answers
pub among-some : (n k : ℕ) {a : ℕ} → Some a ≡ among n k → (a ≡ k) × (a < n)
unfolding among
among-some n k {a} h = go (dec_lt k n)
  where
    go : Dec (k < n) → (a ≡ k) × (a < n)
    go (yes l) = let g = rw (lt-ltb k n l) at h in let e : a ≡ k = cc in (e, omega arith)
    go (no l) = let g = rw (le-ltb k n (omega arith)) at h in cc

pub among-none : (n k : ℕ) → None ≡ among n k → n ≤ k
unfolding among
among-none n k h = go (dec_lt k n)
  where
    go : Dec (k < n) → n ≤ k
    go (yes l) = let g = rw (lt-ltb k n l) at h in cc
    go (no l) = omega arith

-- ---- a search that has come to a
pub record Seeking (f : ℕ → Bool) (n a : ℕ) : Type 0 where
  pub same : seek f a (n - a) ≡ seek f 0 n

pub seeking_starts : (f : ℕ → Bool) (n : ℕ) → Seeking f n 0
seeking_starts f n = record { same = ap (seek f 0) (sub-zero n) }

seek_suc : (f : ℕ → Bool) (a d : ℕ) (b : Bool) → f a ≡ b → seek f a (suc d) ≡ cond b a (seek f (suc a) d)
unfolding seek
seek_suc f a d b e = rw e

module _ {f : ℕ → Bool} {n a : ℕ} (h : Seeking f n a) where
  pub seeking_stops : a < n → f a ≡ true → Some a ≡ among n (seek f 0 n)
  unfolding among
  seeking_stops l e =
      let z : n - a ≡ suc (n - suc a) = omega arith in
      let q : a ≡ seek f 0 n = sym (ap (seek f a) z ∙ seek_suc f a (n - suc a) true e) ∙ h.same in
      rw (← q, lt-ltb a n l)

  pub seeking_turns : a < n → f a ≡ false → Seeking f n (a + 1)
  seeking_turns l e =
      let z : n - a ≡ suc (n - suc a) = omega arith in
      let y : a + 1 ≡ suc a = omega arith in
      rw y record { same = sym (ap (seek f a) z ∙ seek_suc f a (n - suc a) false e) ∙ h.same }

  pub seeking_ends : a ≤ n → n ≤ a → None ≡ among n (seek f 0 n)
  unfolding among
  seeking_ends k l = let e : a ≡ n = omega arith in let q = at_last (rw e at h.same) in rw (← q, le-ltb n n (omega arith))
    where
      none : seek f n (n - n) ≡ n
      none = let z : n - n ≡ 0 = omega arith in rw z (unfold seek in refl)

      at_last : seek f n (n - n) ≡ seek f 0 n → n ≡ seek f 0 n
      at_last q = sym none ∙ q

-- ---- the tests
pub ready : (s : Sights) (n a b al : ℕ) → Sighted s n → a < n → b < n → al < 2 ^ 31 → Ready a b (s a) (s b) al
ready s n a b al h i j k =
    record {
      a_few = omega (arith, h.few);
      b_few = omega (arith, h.few);
      x_small = h.x_small a i;
      right_small = h.right_small a i;
      to_small = h.x_small b j;
      al_small = k;
    }

some_named : (k : ℕ) → is_some (named k) ≡ ltb 0 k
unfolding named
some_named zero = refl
some_named (suc k) = sym (lt-ltb 0 (suc k) (omega arith))

module _ (s : Sights) where
  pub leads-no : (al : ℕ) (xs : List ℕ) (m b a : ℕ) → ¬ (get_or xs a 0 ≡ m) → false ≡ leads_on s al xs m b a
  unfolding leads_on
  leads-no al xs m b a h = rw (ne_eqb (get_or xs a 0) m h)

  pub leads_yes : (al : ℕ) (xs : List ℕ) (m b a : ℕ) (r : Option ℕ) (v w : View) → get_or xs a 0 ≡ m → v ≡ s a → w ≡ s b → r ≡ named (rule_of al a b v w) → is_some r ≡ leads_on s al xs m b a
  unfolding leads_on
  leads_yes al xs m b a r v w h e f q = rw (eq-eqb (get_or xs a 0) m h, q, e, f) (some_named _)

  pub end-no : (xs : List ℕ) (m high e : ℕ) → ¬ (get_or xs e 0 ≡ m) → false ≡ at_end s xs m high e
  unfolding at_end
  end-no xs m high e h = rw (ne_eqb (get_or xs e 0) m h)

  pub end_yes : (xs : List ℕ) (m high e : ℕ) (v : View) → get_or xs e 0 ≡ m → v ≡ s e → eqb v.right high ≡ at_end s xs m high e
  unfolding at_end
  end_yes xs m high e v h q = rw (eq-eqb (get_or xs e 0) m h, q)

  pub first_yes : (low c : ℕ) (v : View) → v ≡ s c → v.x ≡ low → 1 ≡ mark_first s low c
  unfolding mark_first
  first_yes low c v e h = let z = rw e at h in rw (eq-eqb (s c).x low z)

  pub first_no : (low c : ℕ) (v : View) → v ≡ s c → ¬ (v.x ≡ low) → 0 ≡ mark_first s low c
  unfolding mark_first
  first_no low c v e h = let z : ¬ ((s c).x ≡ low) = rw e at h in rw (ne_eqb (s c).x low z)

  pub next_old : (al n : ℕ) (xs : List ℕ) (m c : ℕ) → ¬ (get_or xs c 0 ≡ 0) → get_or xs c 0 ≡ mark_next s al n xs m c
  unfolding mark_next
  next_old al n xs m c h = rw (ne_eqb (get_or xs c 0) 0 h)

  pub next_new : (al n : ℕ) (xs : List ℕ) (m c a : ℕ) → get_or xs c 0 ≡ 0 → Some a ≡ among n (source s al n xs m c) → m + 1 ≡ mark_next s al n xs m c
  unfolding mark_next
  next_new al n xs m c a h e = let (q, l) = among-some n (source s al n xs m c) e in let z : ltb (source s al n xs m c) n ≡ true = lt-ltb _ n (rw (← q) l) in rw (eq-eqb (get_or xs c 0) 0 h, z)

  pub next-none : (al n : ℕ) (xs : List ℕ) (m c : ℕ) → get_or xs c 0 ≡ 0 → None ≡ among n (source s al n xs m c) → 0 ≡ mark_next s al n xs m c
  unfolding mark_next
  next-none al n xs m c h e = let z : ltb (source s al n xs m c) n ≡ false = le-ltb _ n (among-none n _ e) in rw (eq-eqb (get_or xs c 0) 0 h, z)
