-- What the passes over the cells keep. Assumes nothing.
use mathlib.Core.Path.{◌≡◌, refl, sym, ◌∙◌, ap, subst}
use mathlib.Core.Bool.{Bool, true, false}
use mathlib.Core.Logic.{◌≢◌}
use mathlib.Core.List.{List}
use Prim.Native.Nat.{ℕ, suc, ◌+◌, ◌-◌, ◌≤◌, ◌<◌, max}
use native.Mathlib.Omega.{arith}
use native.Mathlib.Decide.{ℕ_discrete}
use lib.ListN.{length, set, length-set}
use Rattle.whole.specs.Says.{Says}
use Rattle.plan.specs.Limits.{most_cells}
use Rattle.plan.specs.Plan.{Table, Is, parent}
use Rattle.spans.specs.Spans.{at}
use Rattle.spans.proofs.Laws.Deepest.{Sunk, sunk_start, sunk_next, deepest}
use Rattle.spans.proofs.Laws.Columns.{all, all-long, all-at, Put, put}
use Rattle.looking_sights.specs.declared.View.{View}
use Rattle.looking_sights.specs.Sights.{Sights}
use Rattle.looking.specs.Passes.{pass1, pass2}
use Rattle.sweeping.specs.Swept.{Ready, AloneAt, Order, top, Rooted, Gathered, Parted, BesideAt}

-- ---- what is returned says a thing
pub said_yes : {P : Type 0} → P → Says true P
said_yes p = record { read = λ _. p; show = λ _. tt }

pub said-no : {P : Type 0} → ¬ P → Says false P
said-no n = record { read = λ h. absurd h; show = λ p. n p }

pub said : {P : Type 0} (r : Bool) → (r ≡ true → P) → (P → r ≡ true) → Says r P
said true f h = record { read = λ _. f refl; show = λ _. tt }
said false f h = record { read = λ k. absurd k; show = λ p. absurd (let e = h p in let z : ◌≡◌ {A = ℕ} 0 1 = cc in omega arith) }

pub not_both : {X : Type 0} {r : Bool} → r ≡ true → r ≡ false → X
not_both e f = absurd (let z : ◌≡◌ {A = ℕ} 0 1 = cc in omega arith)

-- ---- P holds of the first c
pub record Upto (P : ℕ → Type 0) (c : ℕ) : Type 0 where
  pub each : (i : ℕ) → i < c → P i

pub upto-none : (P : ℕ → Type 0) → Upto P 0
upto-none P = record { each = λ i h. absurd (omega arith) }

pub upto_next : {P : ℕ → Type 0} {c : ℕ} → Upto P c → P c → Upto P (c + 1)
upto_next {P} {c} h p = record { each = λ i k. go i k (ℕ_discrete i c) }
  where
    go : (i : ℕ) → i < c + 1 → Dec (i ≡ c) → P i
    go i k (yes e) = rw e p
    go i k (no e) = h.each i (omega arith)

pub upto_all : {P : ℕ → Type 0} {n c : ℕ} → Upto P c → n ≤ c → (i : ℕ) → i < n → P i
upto_all h l i k = h.each i (omega arith)

-- ---- S1 and S2
pub alone_root : {s : Sights} {c : ℕ} {w : View} → w ≡ s c → pass1 c c w ≡ true → c ≡ 0 → AloneAt s c
alone_root e p z = record { one = rw (← e) p; two = λ l. absurd (omega arith) }

pub alone_child : {s : Sights} {c f : ℕ} {v w : View} → w ≡ s c → pass1 c c w ≡ true → f ≡ w.parent → v ≡ s f → pass2 f v w ≡ true → AloneAt s c
alone_child {s} {c} {f} {v} {w} e p q d r = record { one = rw (← e) p; two = λ l. cc }

pub not_alone_one : {s : Sights} {c : ℕ} {w : View} → w ≡ s c → pass1 c c w ≡ false → ¬ AloneAt s c
not_alone_one e p h = not_both h.one (rw (← e) p)

pub alone_two : {s : Sights} {c f : ℕ} {v w : View} → w ≡ s c → c ≢ 0 → f ≡ w.parent → v ≡ s f → AloneAt s c → pass2 f v w ≡ true
alone_two {s} {c} {f} {v} {w} e z q d h = let r = h.two (omega arith) in cc

pub parent_low : {s : Sights} {n c f : ℕ} {w : View} → Ready s n → c < n → c ≢ 0 → w ≡ s c → f ≡ w.parent → f < n
parent_low {c = c} r l z e q = omega (arith, ap (λ (v : View). v.parent) e, r.parents c (omega arith) l)

-- ---- the greatest of each subtree
pub record Gathering (s : Sights) (n : ℕ) (bases : List ℕ) (c : ℕ) (xs : List ℕ) : Type 0 where
  pub low : 1 ≤ c
  pub high : c ≤ n
  pub few : n ≤ most_cells
  pub long : length xs ≡ most_cells
  pub sunk : (t : Table) → Rooted t s n → Sunk t (at bases) c (at xs)

pub gathering_starts : (s : Sights) (n : ℕ) (bases : List ℕ) → Ready s n → length bases ≡ most_cells → Gathering s n bases n bases
gathering_starts s n bases r l = record {
  low = r.some;
  high = omega arith;
  few = r.few;
  long = l;
  sunk = λ t h. subst (λ (k : ℕ). Sunk t (at bases) k (at bases)) h.count (sunk_start t (at bases) h.sound);
}

pub gathering_low : {s : Sights} {n c f : ℕ} {w : View} → Ready s n → 1 < c → c ≤ n → w ≡ s (c - 1) → f ≡ w.parent → f < n
gathering_low {c = c} r l m e q = omega (arith, ap (λ (v : View). v.parent) e, r.parents (c - 1) (omega arith) (omega arith))

module _ (s : Sights) (n : ℕ) (r : Ready s n) {bases xs : List ℕ} {c f v : ℕ} {w : View} (h : Gathering s n bases c xs) (more : 1 < c) (e : w ≡ s (c - 1)) (p : f ≡ w.parent) (q : v ≡ max (at xs f) (at xs (c - 1))) where
  pub gathering_turns : Gathering s n bases (c - 1) (set xs f v)
  gathering_turns = record {
    low = omega arith;
    high = omega (arith, h.high);
    few = h.few;
    long = simp length-set h.long;
    sunk = sunk;
  }
    where
      sunk : (t : Table) → Rooted t s n → Sunk t (at bases) (c - 1) (at (set xs f v))
      sunk t o =
          let i : Is t (c - 1) = omega (arith, o.count, h.high) in
          let l : parent t (c - 1) < c - 1 = o.sound (c - 1) (omega arith) i in
          let f-is : parent t (c - 1) ≡ f = sym (o.parents (c - 1) i) ∙ sym (ap (λ (z : View). z.parent) e) ∙ sym p in
          let k : suc (c - 1) ≡ c = omega arith in
          rw q
          (sunk_next t (at bases) o.sound f (c - 1) (record { low = omega arith; is = i; of = f-is }) (omega arith) (rw k (h.sunk t o))
          (put xs f _ (omega (arith, h.long, h.few, h.high))))

pub gathering_ends : {s : Sights} {n c : ℕ} {bases xs : List ℕ} → Gathering s n bases c xs → c ≤ 1 → Gathered s n (at bases) (at xs)
gathering_ends {c = c} {bases = bases} h l = record {
  deepest = λ t o. let e : c ≡ 1 = omega (arith, h.low) in deepest t (at bases) o.sound (rw e at (h.sunk t o));
}

-- ---- the cells by their numbers
pub record Ordering (s : Sights) (n c : ℕ) (order : List ℕ) : Type 0 where
  pub high : c ≤ n
  pub few : n ≤ most_cells
  pub long : length order ≡ most_cells
  pub low : (k : ℕ) → k < most_cells → at order k < n
  pub here : (i : ℕ) → i < c → at order (s i).first ≡ i

module _ (s : Sights) (n : ℕ) (r : Ready s n) where
  pub ordering_starts : Ordering s n 0 (all 0)
  ordering_starts = record {
    high = omega arith;
    few = r.few;
    long = all-long 0;
    low = λ k l. omega (arith, all-at 0 k l, r.some);
    here = λ i l. absurd (omega arith);
  }

  pub first_low : {c k : ℕ} {w : View} → c < n → w ≡ s c → k ≡ w.first → k < n
  first_low {c} {k} {w} l e q = omega (arith, q, ap (λ (v : View). v.first) e, r.firsts c l, r.last)

  pub ordering_turns : {c k : ℕ} {w : View} {order : List ℕ} → Ordering s n c order → c < n → w ≡ s c → k ≡ w.first → Ordering s n (c + 1) (set order k c)
  ordering_turns {c} {k} {w} {order} h l e q = record {
    high = omega arith;
    few = h.few;
    long = simp length-set h.long;
    low = λ i j. low i j (ℕ_discrete i k);
    here = λ i j. here i j (ℕ_discrete i c);
  }
    where
      k-is : k ≡ (s c).first
      k-is = q ∙ ap (λ (v : View). v.first) e

      p : Put (at order) (at (set order k c)) k c
      p = put order k c (omega (arith, h.long, h.few, k-is, r.firsts c l, r.last))

      low : (i : ℕ) → i < most_cells → Dec (i ≡ k) → at (set order k c) i < n
      low i j (yes d) = rw (d, p.here) l
      low i j (no d) = rw (p.off i d) (h.low i j)

      here : (i : ℕ) → i < c + 1 → Dec (i ≡ c) → at (set order k c) (s i).first ≡ i
      here i j (yes d) = rw (d, ← k-is) p.here
      here i j (no d) =
          p.off (s i).first (λ z. d (r.once i c (omega (arith, h.high)) l (z ∙ k-is))) ∙ h.here i (omega arith)

  pub ordering_ends : {c : ℕ} {order : List ℕ} → Ordering s n c order → n ≤ c → Order s n order
  ordering_ends h l = record { low = h.low; here = λ i k. h.here i (omega arith) }

-- ---- S3 and S5
pub from_low : {s : Sights} {n v k : ℕ} {w : View} → Ready s n → v < n → w ≡ s v → k ≡ w.from → k < most_cells
from_low {v = v} r l e q = let h = r.froms v l in omega (arith, ap (λ (z : View). z.from) e, h.so, r.firsts h.cell h.is, r.last, r.few)

pub sibling_low : {s : Sights} {n v k u : ℕ} {w : View} {order : List ℕ} → Ready s n → Order s n order → v < n → w ≡ s v → k ≡ w.from → u ≡ at order k → u < n
sibling_low {k = k} r o l e q d = omega (arith, d, o.low k (from_low r l e q))

module _ (s : Sights) (n : ℕ) (order : List ℕ) (o : Order s n order) {v k u : ℕ} {w : View} (e : w ≡ s v) (q : k ≡ w.from) (d : u ≡ at order k) where
  -- the sibling right before
  found : (a : ℕ) → a < n → (s a).first ≡ (s v).from → u ≡ a
  found a i f = d ∙ ap (at order) (q ∙ ap (λ (z : View). z.from) e ∙ sym f) ∙ o.here a i

  pub beside_none : (al : ℕ) (high low : List ℕ) → u ≡ v → BesideAt s n al (at high) (at low) v
  beside_none al high low z = record { each = λ a i f h. absurd (h (sym (found a i f) ∙ z)) }

  parted : (al : ℕ) (high low : List ℕ) {x : View} → x ≡ s u → at low v ≤ top → at high u < w.x → x.x < top - at low v → at high u + 1 ≤ top - at low v + al → Parted s al (at high) (at low) u v
  parted al high low {x} f l g h j = record { ends = rw e at g; starts = omega (arith, ap (λ (y : View). y.x) f); overlap = omega arith }

  pub beside-one : (al : ℕ) (high low : List ℕ) {x : View} → x ≡ s u → at low v ≤ top → at high u < w.x → x.x < top - at low v → at high u + 1 ≤ top - at low v + al → BesideAt s n al (at high) (at low) v
  beside-one al high low f l g h j = record { each = λ a i p r. rw (found a i p) at (parted al high low f l g h j) }

  module _ (r : Ready s n) (l : v < n) (m : u ≢ v) (al : ℕ) (high low : List ℕ) (h : BesideAt s n al (at high) (at low) v) where
    is-parted : Parted s al (at high) (at low) u v
    is-parted =
        let k = r.froms v l in
        let q = found k.cell k.is k.so in
        h.each u (rw q k.is) (rw q k.so) m

    pub not_ends : w.x ≤ at high u → ⊥
    not_ends z = omega (arith, is-parted.ends, ap (λ (y : View). y.x) e)

    pub not_starts : {x : View} → x ≡ s u → top - at low v ≤ x.x → ⊥
    not_starts f z = omega (arith, is-parted.starts, ap (λ (y : View). y.x) f)

    pub overlaps : at low v ≤ top → at high u + 1 ≤ top - at low v + al
    overlaps z = omega (arith, is-parted.overlap)
