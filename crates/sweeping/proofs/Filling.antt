-- What the sweep keeps. Assumes nothing.
use mathlib.Core.Path.{◌≡◌, refl, sym, ◌∙◌, ap}
use mathlib.Core.Logic.{◌⊎◌, ◌≢◌, inl, inr}
use mathlib.Core.List.{List}
use Prim.Native.Nat.{ℕ, ◌+◌, ◌-◌, ◌≤◌, ◌<◌}
use native.Mathlib.Omega.{arith}
use native.Mathlib.Decide.{ℕ_discrete, dec_le, dec_lt}
use lib.ListN.{length, get_or, set, length-set, get_or-eq_default}
use Rattle.plan.specs.Limits.{most_cells, last_row, farthest}
use Rattle.spans.specs.Spans.{at}
use Rattle.spans.proofs.Laws.Columns.{all, all-long, all-at, Put, put}
use Rattle.looking_sights.specs.declared.View.{View}
use Rattle.looking_sights.specs.Sights.{Sights}
use Rattle.sweeping.specs.Swept.{Ready, Order, Fills, Clear, Rows, most_rows, level, Filled, Taken, Held, Settled, Blocked}

-- ---- rows, one after the other
pub record Filling (rs : List ℕ) (from to x v y : ℕ) (rs' : List ℕ) : Type 0 where
  pub far : farthest ≤ from
  pub near : to ≤ farthest + last_row
  pub low : from ≤ y
  pub high : y ≤ to + 1
  pub long : length rs' ≡ most_rows
  pub early : (z : ℕ) → farthest ≤ z → z < from → level rs' z ≡ level rs z
  pub free : (z : ℕ) → from ≤ z → z < y → level rs z ≤ x
  pub put_in : (z : ℕ) → from ≤ z → z < y → level rs' z ≡ v
  pub rest : (z : ℕ) → y ≤ z → level rs' z ≡ level rs z
  pub grows : (i : ℕ) → get_or rs i 0 ≤ get_or rs' i 0

pub filling-starts : (rs : List ℕ) (from to x v : ℕ) → length rs ≡ most_rows → farthest ≤ from → from ≤ to + 1 → to ≤ farthest + last_row → Filling rs from to x v from rs
filling-starts rs from to x v l f k t = record {
  far = f;
  near = t;
  low = omega arith;
  high = k;
  long = l;
  early = λ z a b. refl;
  free = λ z a b. absurd (omega arith);
  put_in = λ z a b. absurd (omega arith);
  rest = λ z a. refl;
  grows = λ i. omega arith;
}

module _ {rs rs' : List ℕ} {from to x v y : ℕ} (h : Filling rs from to x v y rs') where
  pub filling-turns : {r : ℕ} → x ≤ v → y ≤ to → r ≡ y - farthest → get_or rs' r 0 ≤ x → Filling rs from to x v (y + 1) (set rs' r v)
  filling-turns {r} k l q d = record {
    far = h.far;
    near = h.near;
    low = omega (arith, h.low);
    high = omega arith;
    long = simp length-set h.long;
    early = λ z a b. p.off (z - farthest) (omega (arith, h.low, h.far)) ∙ h.early z a b;
    free = λ z a b. free z a b (ℕ_discrete z y);
    put_in = λ z a b. put_in z a b (ℕ_discrete z y);
    rest = λ z a. p.off (z - farthest) (omega (arith, h.low, h.far)) ∙ h.rest z (omega arith);
    grows = λ i. grows i (ℕ_discrete i r);
  }
    where
      p : Put (at rs') (at (set rs' r v)) r v
      p = put rs' r v (omega (arith, h.long, h.near, h.far, h.low))

      now_free : level rs' y ≤ x
      now_free = rw (← q) d

      free : (z : ℕ) → from ≤ z → z < y + 1 → Dec (z ≡ y) → level rs z ≤ x
      free z a b (yes e) = rw (e, ← (h.rest y (omega arith))) now_free
      free z a b (no e) = h.free z a (omega arith)

      put_in : (z : ℕ) → from ≤ z → z < y + 1 → Dec (z ≡ y) → level (set rs' r v) z ≡ v
      put_in z a b (yes e) = rw (e, ← q) p.here
      put_in z a b (no e) = p.off (z - farthest) (omega (arith, h.far)) ∙ h.put_in z a (omega arith)

      grows : (i : ℕ) → Dec (i ≡ r) → get_or rs i 0 ≤ get_or (set rs' r v) i 0
      grows i (yes e) = rw e (omega (arith, p.here, h.grows r))
      grows i (no e) = omega (arith, p.off i e, h.grows i)

  pub filling-ends : to < y → Filled rs rs' from to x v
  filling-ends l = record { long = h.long; free = λ z a b. h.free z a (omega arith); put = λ z a b. h.put_in z a (omega arith); off = off; grows = h.grows }
    where
      off : (z : ℕ) → farthest ≤ z → (z < from) ⊎ (to < z) → level rs' z ≡ level rs z
      off z f (inl a) = h.early z f a
      off z f (inr a) = h.rest z (omega (arith, h.high))

  pub filling-stops : {r : ℕ} → y ≤ to → r ≡ y - farthest → x < get_or rs' r 0 → Taken rs from to x
  filling-stops l q d = record { row = y; low = h.low; high = l; so = rw (← (h.rest y (omega arith)), ← q) d }

-- ---- a cell
pub box-fits : {s : Sights} {n c : ℕ} {w : View} → Rows s n → c < n → w ≡ s c → (farthest ≤ w.y) × (w.y ≤ w.base + 1) × (w.base ≤ farthest + last_row)
box-fits {c = c} r i e =
    let b = r.box_rows c i in
    rw e (r.first_row c i, omega arith, omega (arith, r.sheet_rows c i))

pub stem-fits : {s : Sights} {n c : ℕ} {v w : View} → Ready s n → Rows s n → c < n → c ≢ 0 → w ≡ s c → v ≡ s w.parent → (farthest ≤ w.bottom + 1) × (w.bottom + 1 ≤ v.bottom + 1) × (v.bottom ≤ farthest + last_row)
stem-fits {c = c} q r i z e d =
    let b = r.box_rows c i in
    let l : 1 ≤ c = omega arith in
    rw (d, e) (omega (arith, r.first_row c i), omega (arith, r.stem_rows c l i), r.sheet_rows _ (q.parents c l i))

module _ (s : Sights) (n c : ℕ) (rows : Rows s n) (ic : c < n) {w : View} (e : w ≡ s c) {rs rs' : List ℕ} (h : Filled rs rs' w.y w.base w.x (w.right + 1)) where
  own : Filled rs rs' (s c).y (s c).base (s c).x ((s c).right + 1)
  own = rw e at h

  box_held : (y : ℕ) → farthest ≤ y → Dec ((s c).y ≤ y) → Dec (y ≤ (s c).base) → Held s c y rs rs'
  box_held y f (yes a) (yes b) = Held.by_it (s c).right (Fills.box a b refl) (own.put y a b)
  box_held y f (yes a) (no b) = Held.as_it_was (own.off y f (inr (omega arith)))
  box_held y f (no a) b = Held.as_it_was (own.off y f (inl (omega arith)))

  box-only : ((y e : ℕ) → 1 ≤ c → (s c).nth ≡ (s (s c).parent).middle → ⊥) → Settled s c rs rs'
  box-only n = record { long = h.long; free = free; put = put_in; own = λ y f. box_held y f (dec_le (s c).y y) (dec_le y (s c).base); grows = h.grows }
    where
      free : (y e : ℕ) → Fills s c y e → level rs y ≤ (s c).x
      free y e (Fills.box a b q) = own.free y a b
      free y e (Fills.hang a b _ _ _) = absurd (n y e a b)

      put_in : (y e : ℕ) → Fills s c y e → e < level rs' y
      put_in y e (Fills.box a b q) = omega (arith, own.put y a b)
      put_in y e (Fills.hang a b _ _ _) = absurd (n y e a b)

  pub settled_root : c ≡ 0 → Settled s c rs rs'
  settled_root z = box-only (λ y e l _. omega arith)

  module _ {v : View} (d : v ≡ s w.parent) where
    v_is : v ≡ s (s c).parent
    v_is = d ∙ ap (λ (z : View). s z.parent) e

    pub settled-other : w.nth ≢ v.middle → Settled s c rs rs'
    settled-other n = box-only (λ y z l q. n (ap (λ (k : View). k.nth) e ∙ q ∙ sym (ap (λ (k : View). k.middle) v_is)))

    module _ (z : c ≢ 0) (q : w.nth ≡ v.middle) where
      nth_is : (s c).nth ≡ (s (s c).parent).middle
      nth_is = sym (ap (λ (k : View). k.nth) e) ∙ q ∙ ap (λ (k : View). k.middle) v_is

      pub settled_heir : {rs'' : List ℕ} → Filled rs' rs'' (w.bottom + 1) v.bottom w.x (w.x + 1) → Settled s c rs rs''
      settled_heir {rs''} k = record { long = k.long; free = free; put = put_in; own = λ y f. held y f (dec_le y (s c).bottom) (dec_le y (s (s c).parent).bottom); grows = λ i. omega (arith, h.grows i, k.grows i) }
        where
          more : Filled rs' rs'' ((s c).bottom + 1) (s (s c).parent).bottom (s c).x ((s c).x + 1)
          more = rw (v_is, e) at k

          free : (y e : ℕ) → Fills s c y e → level rs y ≤ (s c).x
          free y e (Fills.box a b q) = own.free y a b
          free y e (Fills.hang a b m n q) = omega (arith, more.free y (omega arith) n, h.grows (y - farthest))

          put_in : (y e : ℕ) → Fills s c y e → e < level rs'' y
          put_in y e (Fills.box a b q) = omega (arith, own.put y a b, k.grows (y - farthest))
          put_in y e (Fills.hang a b m n q) = omega (arith, more.put y (omega arith) n)

          first : (y : ℕ) → level rs'' y ≡ level rs' y → Held s c y rs rs' → Held s c y rs rs''
          first y g (Held.as_it_was a) = Held.as_it_was (g ∙ a)
          first y g (Held.by_it e a b) = Held.by_it e a (g ∙ b)

          held : (y : ℕ) → farthest ≤ y → Dec (y ≤ (s c).bottom) → Dec (y ≤ (s (s c).parent).bottom) → Held s c y rs rs''
          held y f (yes a) b = first y (more.off y f (inl (omega arith))) (box_held y f (dec_le (s c).y y) (dec_le y (s c).base))
          held y f (no a) (yes b) = Held.by_it (s c).x (Fills.hang (omega arith) nth_is (omega arith) b refl) (more.put y (omega arith) b)
          held y f (no a) (no b) = first y (more.off y f (inr (omega arith))) (box_held y f (dec_le (s c).y y) (dec_le y (s c).base))

      pub heir_blocked : Taken rs' (w.bottom + 1) v.bottom w.x → Blocked s c rs
      heir_blocked k = record { row = k.row; to = (s c).x; fills = Fills.hang (omega arith) nth_is (omega (arith, k.low, bottom-is)) (rw v_is at k.high) refl; so = so }
        where
          bottom-is : w.bottom ≡ (s c).bottom
          bottom-is = ap (λ (k : View). k.bottom) e

          so : (s c).x < level rs k.row
          so =
              let b = rows.box_rows c ic in
              let f = rows.first_row c ic in
              omega (arith, k.so, ap (λ (k : View). k.x) e, own.off k.row (omega (arith, k.low, bottom-is)) (inr (omega (arith, k.low, bottom-is))))

pub box_blocked : (s : Sights) (c : ℕ) {w : View} → w ≡ s c → {rs : List ℕ} → Taken rs w.y w.base w.x → Blocked s c rs
box_blocked s c {w} e {rs} k =
    let h : Taken rs (s c).y (s c).base (s c).x = rw e at k in
    record { row = h.row; to = (s c).right; fills = Fills.box h.low h.high refl; so = h.so }

-- ---- the cells, in preorder: those with the first k numbers are opened
-- what is taken of a row is taken by one of them
pub data Source (s : Sights) (n k y : ℕ) (rs : List ℕ) : Type 0 where
  none : level rs y ≡ 0 → Source s n k y rs
  by : (c e : ℕ) → c < n → (s c).first < k → Fills s c y e → level rs y ≡ e + 1 → Source s n k y rs

pub record Sweeping (s : Sights) (n last k : ℕ) (rs : List ℕ) : Type 0 where
  pub high : k ≤ last
  pub few : last ≤ most_cells
  pub long : length rs ≡ most_rows
  pub put : (c y e : ℕ) → c < n → (s c).first < k → Fills s c y e → e < level rs y
  pub source : (y : ℕ) → farthest ≤ y → Source s n k y rs
  pub free : (a b y e e' : ℕ) → a < n → b < n → (s a).first < (s b).first → (s b).first < k → Fills s a y e → Fills s b y e' → e < (s b).x

empty : (i : ℕ) → at (all 0) i ≡ 0
empty i = go (dec_lt i most_cells)
  where
    go : Dec (i < most_cells) → at (all 0) i ≡ 0
    go (yes d) = all-at 0 i d
    go (no d) = get_or-eq_default (all 0) 0 {n = i} (omega (arith, all-long 0))

module _ (s : Sights) (n : ℕ) (r : Ready s n) where
  pub last_few : {w : View} {last : ℕ} → w ≡ s 0 → last ≡ w.end → last ≤ most_cells
  last_few e q = omega (arith, ap (λ (v : View). v.end) e, r.last, r.few)

  pub sweeping_starts : {last : ℕ} → last ≤ most_cells → Sweeping s n last 0 (all 0)
  sweeping_starts f = record {
    high = omega arith;
    few = f;
    long = all-long 0;
    put = λ c y e i l. absurd (omega arith);
    source = λ y f. Source.none (empty (y - farthest));
    free = λ a b y e e' i j l m. absurd (omega arith);
  }

  module _ {order : List ℕ} (o : Order s n order) {w : View} {last : ℕ} (g : w ≡ s 0) (f : last ≡ w.end) {k : ℕ} {rs : List ℕ} (h : Sweeping s n last k rs) where
    last_is : last ≡ (s 0).end
    last_is = f ∙ ap (λ (v : View). v.end) g

    module _ {c : ℕ} (l : k < last) (q : c ≡ at order k) where
      is : (a : ℕ) → a < n → (s a).first ≡ k → a ≡ c
      is a i e = sym (o.here a i) ∙ ap (at order) e ∙ sym q

      opened : (s c).first ≡ k
      opened = let z = r.hits k (omega (arith, last_is)) in rw (is z.cell z.is z.so) at z.so

      pub cell_low : c < n
      cell_low = omega (arith, q, o.low k (omega (arith, h.few)))

      pub sweeping_turns : {rs' : List ℕ} → Settled s c rs rs' → Sweeping s n last (k + 1) rs'
      sweeping_turns {rs'} d = record {
        high = omega arith;
        few = h.few;
        long = d.long;
        put = λ a y e i m f. put_in a y e i m f (ℕ_discrete (s a).first k);
        source = λ y f. source y (d.own y f) (h.source y f);
        free = λ a b y e e' i j m m' f f'. free a b y e e' i j m m' f f' (ℕ_discrete (s b).first k);
      }
        where
          put_in : (a y e : ℕ) → a < n → (s a).first < k + 1 → Fills s a y e → Dec ((s a).first ≡ k) → e < level rs' y
          put_in a y e i m f (yes z) = d.put y e (rw (is a i z) at f)
          put_in a y e i m f (no z) = omega (arith, h.put a y e i (omega arith) f, d.grows (y - farthest))

          source : (y : ℕ) → Held s c y rs rs' → Source s n k y rs → Source s n (k + 1) y rs'
          source y (Held.as_it_was z) (Source.none m) = Source.none (z ∙ m)
          source y (Held.as_it_was z) (Source.by a e i m f x) = Source.by a e i (omega arith) f (z ∙ x)
          source y (Held.by_it e f x) m = Source.by c e cell_low (omega (arith, opened)) f x

          free : (a b y e e' : ℕ) → a < n → b < n → (s a).first < (s b).first → (s b).first < k + 1 → Fills s a y e → Fills s b y e' → Dec ((s b).first ≡ k) → e < (s b).x
          free a b y e e' i j m m' f f' (yes z) =
              let r : level rs y ≤ (s c).x = d.free y e' (rw (is b j z) at f') in
              omega (arith, h.put a y e i (omega arith) f, r, ap (λ (x : ℕ). (s x).x) (is b j z))
          free a b y e e' i j m m' f f' (no z) = h.free a b y e e' i j m (omega arith) f f'

      pub sweeping_stops : Rows s n → Blocked s c rs → ¬ Clear s n
      sweeping_stops x b z = go (h.source b.row (far b.fills))
        where
          far : {y e : ℕ} → Fills s c y e → farthest ≤ y
          far (Fills.box u v _) = omega (arith, x.first_row c cell_low)
          far (Fills.hang _ _ u v _) = let b = x.box_rows c cell_low in omega (arith, x.first_row c cell_low)

          go : Source s n k b.row rs → ⊥
          go (Source.none m) = omega (arith, b.so)
          go (Source.by a e i m f y) = omega (arith, b.so, z.free a c b.row e b.to i cell_low (omega (arith, opened)) f b.fills)

    pub sweeping_ends : last ≤ k → Clear s n
    sweeping_ends l = record { free = λ a b y e e' i j m f f'. h.free a b y e e' i j m (omega (arith, r.firsts b j, last_is)) f f' }
