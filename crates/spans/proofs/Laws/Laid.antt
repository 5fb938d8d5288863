-- From sizes to spans: each cell, from the first to the last, shares its span out among its children, in their order. Assumes nothing.
use Rattle.std.specs.Prelude.{◌≡◌, ◌≢◌, length, T}
use Rattle.std.proofs.Math.Path.{refl}
use Rattle.std.proofs.Common.{sym, ◌∙◌, length-set}
use mathlib.Core.List.{List, [], ◌∷◌}
use Prim.Native.Nat.{ℕ, zero, suc, ◌+◌, ◌≤◌, ◌<◌}
use native.Mathlib.Omega.{arith}
use Rattle.std.proofs.Math.Decide.{ℕ_discrete, dec_lt}
use Rattle.std.proofs.Math.Seq.{get_or-set_same, get_or-set_other}
use Rattle.plan.specs.Limits.{most_cells}
use Rattle.plan.specs.Lists.{At, mem, total}
use Rattle.plan.proofs.Laws.Lists.{mem-here, mem_there, mem-at}
use Rattle.plan.proofs.Laws.Sort.{Ordered, before-once}
use Rattle.plan.specs.Plan.{Table, Is, Sound, parent, rank, children}
use Rattle.plan.proofs.Laws.Plan.{child-read, child_show, children_ordered}
use Rattle.plan.proofs.Laws.Paths.{child_less}
use Rattle.spans.specs.Spans.{at, Sized, Numbered, Spans}
use Rattle.spans.specs.Shared.{Cols, Long, next_size, share, spread, spread_at}

-- the same numbers at x
pub record Same (c d : Cols) (x : ℕ) : Type 0 where
  pub first_same : at d.firsts x ≡ at c.firsts x
  pub end_same : at d.ends x ≡ at c.ends x
  pub from_same : at d.froms x ≡ at c.froms x
  pub to_same : at d.tos x ≡ at c.tos x

module _ (size : ℕ → ℕ) where
  pub spread_none : (c : Cols) (b a : ℕ) → spread size c b a [] ≡ c
  unfolding spread
  spread_none c b a = refl

  pub spread-cons : (c : Cols) (b a s : ℕ) (l : List ℕ) → spread size c b a (s ∷ l) ≡ spread size (share size c b a s (next_size size l)) a (a + size s) l
  unfolding spread
  spread-cons c b a s l = refl

  pub share-long : (c : Cols) (b a s z : ℕ) → Long c → Long (share size c b a s z)
  share-long c b a s z h = record {
    firsts_long = length-set c.firsts s a ∙ h.firsts_long;
    ends_long = length-set c.ends s (a + size s) ∙ h.ends_long;
    froms_long = length-set c.froms s b ∙ h.froms_long;
    tos_long = length-set c.tos s (a + size s + z) ∙ h.tos_long;
  }

  pub spread-long : (c : Cols) (b a : ℕ) (l : List ℕ) → Long c → Long (spread size c b a l)
  unfolding spread
  spread-long c b a [] h = h
  spread-long c b a (s ∷ l) h = spread-long (share size c b a s (next_size size l)) a (a + size s) l (share-long c b a s (next_size size l) h)

  -- other cells keep theirs
  spread-off : (c : Cols) (b a : ℕ) (l : List ℕ) (x : ℕ) → (T (mem x l) → ⊥) → Same c (spread size c b a l) x
  unfolding spread
  spread-off c b a [] x h = record { first_same = refl; end_same = refl; from_same = refl; to_same = refl }
  spread-off c b a (s ∷ l) x h =
      let e : x ≢ s = λ z. h (mem-here x s l z) in
      let r = spread-off (share size c b a s (next_size size l)) a (a + size s) l x (λ m. h (mem_there x s l m)) in
      record {
        first_same = r.first_same ∙ get_or-set_other c.firsts s x a 0 e;
        end_same = r.end_same ∙ get_or-set_other c.ends s x (a + size s) 0 e;
        from_same = r.from_same ∙ get_or-set_other c.froms s x b 0 e;
        to_same = r.to_same ∙ get_or-set_other c.tos s x (a + size s + (next_size size) l) 0 e;
      }

  -- the spans of a list's cells, from a on, one right after the other
  abbrev pub Row : Cols → ℕ → ℕ → List ℕ → Type 0
  Row c b a [] = Unit {0}
  Row c b a (s ∷ l) = record { first-is : at c.firsts s ≡ a; end_is : at c.ends s ≡ a + size s; from_is : at c.froms s ≡ b; to_is : at c.tos s ≡ a + size s + (next_size size) l; rest : Row c a (a + size s) l }

  row_same : (c d : Cols) (b a : ℕ) (l : List ℕ) → ((x : ℕ) → T (mem x l) → Same c d x) → Row c b a l → Row d b a l
  row_same c d b a [] h r = tt
  row_same c d b a (s ∷ l) h r =
      let e = h s (mem-here s s l refl) in
      record {
        first-is = e.first_same ∙ r.first-is;
        end_is = e.end_same ∙ r.end_is;
        from_is = e.from_same ∙ r.from_is;
        to_is = e.to_same ∙ r.to_is;
        rest = row_same c d a (a + size s) l (λ x m. h x (mem_there x s l m)) r.rest;
      }

  spread_row : (f : ℕ → ℕ) (c : Cols) (b a : ℕ) (l : List ℕ) → Long c → Ordered f l → ((x : ℕ) → T (mem x l) → x < most_cells) → Row (spread size c b a l) b a l
  unfolding spread
  spread_row f c b a [] h o n = tt
  spread_row f c b a (s ∷ l) h o n =
      let c' = share size c b a s (next_size size l) in
      let k = n s (mem-here s s l refl) in
      let r = spread-off c' a (a + size s) l s (λ m. before-once f s s (o.0 s m) refl) in
      record {
        first-is = r.first_same ∙ get_or-set_same c.firsts s a 0 (omega (arith, h.firsts_long));
        end_is = r.end_same ∙ get_or-set_same c.ends s (a + size s) 0 (omega (arith, h.ends_long));
        from_is = r.from_same ∙ get_or-set_same c.froms s b 0 (omega (arith, h.froms_long));
        to_is = r.to_same ∙ get_or-set_same c.tos s (a + size s + (next_size size) l) 0 (omega (arith, h.tos_long));
        rest = spread_row f c' a (a + size s) l (share-long c b a s (next_size size l) h) o.1 (λ x m. n x (mem_there x s l m));
      }

  -- ---- what a row says of its cells
  row-whole : (c : Cols) (b a : ℕ) (l : List ℕ) → Row c b a l → (i s : ℕ) → At l i s → at c.ends s ≡ at c.firsts s + size s
  row-whole c b a [] r i s h = absurd h
  row-whole c b a (x ∷ l) r zero s h = rw h (omega (arith, r.first-is, r.end_is))
  row-whole c b a (x ∷ l) r (suc i) s h = row-whole c a (a + size x) l r.rest i s h

  row_inside : (c : Cols) (b a : ℕ) (l : List ℕ) → Row c b a l → (i s : ℕ) → At l i s → (a ≤ at c.firsts s) × (at c.ends s ≤ a + total size l)
  unfolding total
  row_inside c b a [] r i s h = absurd h
  row_inside c b a (x ∷ l) r zero s h = rw h (omega (arith, r.first-is), omega (arith, r.end_is))
  row_inside c b a (x ∷ l) r (suc i) s h = let k = row_inside c a (a + size x) l r.rest i s h in (omega arith, omega arith)

  -- the cell of a row whose span has k
  record Holds (c : Cols) (l : List ℕ) (k : ℕ) : Type 0 where
    i : ℕ
    s : ℕ
    place : At l i s
    low : at c.firsts s ≤ k
    high : k < at c.ends s

  row_find : (c : Cols) (b a : ℕ) (l : List ℕ) → Row c b a l → (k : ℕ) → a ≤ k → k < a + total size l → Holds c l k
  unfolding total
  row_find c b a [] r k p q = absurd (omega arith)
  row_find c b a (x ∷ l) r k p q = go (dec_lt k (a + size x)) (row_find c a (a + size x) l r.rest k)
    where
      go : Dec (k < a + size x) → (a + size x ≤ k → k < a + size x + total size l → Holds c l k) → Holds c (x ∷ l) k
      go (yes d) f = record { i = 0; s = x; place = refl; low = omega (arith, r.first-is); high = omega (arith, r.end_is) }
      go (no d) f = let h = f (omega arith) (omega arith) in record { i = suc h.i; s = h.s; place = h.place; low = h.low; high = h.high }

  record Met (c : Cols) (u v : ℕ) : Type 0 where
    meets : at c.ends u ≡ at c.firsts v
    from_is : at c.froms v ≡ at c.firsts u
    to_is : at c.tos u ≡ at c.ends v

  row-beside : (c : Cols) (b a : ℕ) (l : List ℕ) → Row c b a l → (i u v : ℕ) → At l i u → At l (suc i) v → Met c u v
  row-beside c b a [] r i u v h k = absurd h
  row-beside c b a (x ∷ []) r zero u v h k = absurd k
  row-beside c b a (x ∷ y ∷ l) r zero u v h k =
      rw (h, k)
      (record { meets = r.end_is ∙ sym r.rest.first-is; from_is = r.rest.from_is ∙ sym r.first-is; to_is = r.to_is ∙ sym r.rest.end_is })
  row-beside c b a (x ∷ l) r (suc i) u v h k = row-beside c a (a + size x) l r.rest i u v h k

  row_first : (c : Cols) (a : ℕ) (l : List ℕ) → Row c a a l → (v : ℕ) → At l 0 v → at c.froms v ≡ at c.firsts v
  row_first c a [] r v h = absurd h
  row_first c a (x ∷ l) r v h = rw h (r.from_is ∙ sym r.first-is)

  row_last : (c : Cols) (b a : ℕ) (l : List ℕ) → Row c b a l → (i u : ℕ) → At l i u → length l ≡ suc i → at c.tos u ≡ at c.ends u
  row_last c b a [] r i u h e = absurd h
  row_last c b a (x ∷ []) r zero u h e = rw h (omega (arith, r.to_is, r.end_is))
  row_last c b a (x ∷ y ∷ l) r zero u h e = absurd (omega arith)
  row_last c b a (x ∷ l) r (suc i) u h e = row_last c a (a + size x) l r.rest i u h (omega arith)

-- x has its span once the cells before k have shared theirs out
abbrev pub Has : Table → ℕ → ℕ → Type 0
Has t k zero = Unit {0}
Has t k (suc m) = parent t (suc m) < k

pub record Laid (t : Table) (size : ℕ → ℕ) (k : ℕ) (c : Cols) : Type 0 where
  pub long : Long c
  pub rows : (f : ℕ) → Is t f → f < k → Row size c (at c.firsts f + 1) (at c.firsts f + 1) (children t f)
  pub room : (x : ℕ) → Is t x → Has t k x → at c.firsts x + size x ≤ length t
  pub root_first : at c.firsts 0 ≡ 0
  pub root_end : at c.ends 0 ≡ size 0
  pub root_from : at c.froms 0 ≡ 0
  pub root_to : at c.tos 0 ≡ size 0

module _ (t : Table) (sound : Sound t) (few : length t ≤ most_cells) {size : ℕ → ℕ} (z : Sized t size) where
  pub laid_start : (c : Cols) → Is t 0 → Long c → at c.firsts 0 ≡ 0 → at c.ends 0 ≡ size 0 → at c.froms 0 ≡ 0 → at c.tos 0 ≡ size 0 → Laid t size 0 c
  laid_start c i long a b d e = record {
    long = long;
    rows = λ f j h. absurd (omega arith);
    room = start;
    root_first = a;
    root_end = b;
    root_from = d;
    root_to = e;
  }
    where
      start : (x : ℕ) → Is t x → Has t 0 x → at c.firsts x + size x ≤ length t
      start zero j h = omega (arith, z.few 0 i)
      start (suc m) j h = absurd (omega arith)

  -- the cell k has its span when its turn comes
  has_own : (k : ℕ) → Is t k → Has t k k
  has_own zero i = tt
  has_own (suc m) i = sound (suc m) (omega arith) i

  module _ (k : ℕ) (i : Is t k) (c : Cols) (h : Laid t size k c) where
    abbrev d : Cols
    d = spread_at size c k (children t k)

    -- the children of k are later cells, and all in the table
    later : (x : ℕ) → T (mem x (children t k)) → (k < x) × Is t x
    later x m = let (j, a) = mem-at (children t k) x m in child_less t sound k j x a

    pub room-here : at c.firsts k + 1 + total size (children t k) ≤ length t
    room-here = omega (arith, h.room k i (has_own k i), z.parts k i)

    off : (x : ℕ) → (T (mem x (children t k)) → ⊥) → Same c d x
    off x n = spread-off size c (at c.firsts k + 1) (at c.firsts k + 1) (children t k) x n

    early : (x : ℕ) → x ≤ k → Same c d x
    early x l = off x (λ m. omega (arith, (later x m).0))

    own_row : Row size d (at c.firsts k + 1) (at c.firsts k + 1) (children t k)
    own_row =
        spread_row size (rank t) c (at c.firsts k + 1) (at c.firsts k + 1) (children t k) h.long (children_ordered t k)
        (λ x m. omega (arith, (later x m).1, few))

    -- a child of f is none of k
    not_mine : (f x : ℕ) → f ≢ k → T (mem x (children t f)) → T (mem x (children t k)) → ⊥
    not_mine f x ne p q =
        let (i, a) = mem-at (children t f) x p in
        let (j, b) = mem-at (children t k) x q in
        ne (sym (child-read t f i x a).of ∙ (child-read t k j x b).of)

    rows_next : (f : ℕ) → Is t f → f < suc k → Row size d (at d.firsts f + 1) (at d.firsts f + 1) (children t f)
    rows_next f j l = rw (early f (omega arith)).first_same (go (ℕ_discrete f k))
      where
        go : Dec (f ≡ k) → Row size d (at c.firsts f + 1) (at c.firsts f + 1) (children t f)
        go (yes e) = rw e own_row
        go (no e) = row_same size c d (at c.firsts f + 1) (at c.firsts f + 1) (children t f) (λ x m. off x (not_mine f x e m)) (h.rows f j (omega arith))

    room_next : (x : ℕ) → Is t x → Has t (suc k) x → at d.firsts x + size x ≤ length t
    room_next zero j p = rw (early 0 (omega arith)).first_same (h.room 0 j tt)
    room_next (suc m) j p = go (ℕ_discrete (parent t (suc m)) k)
      where
        go : Dec (parent t (suc m) ≡ k) → at d.firsts (suc m) + size (suc m) ≤ length t
        go (yes e) =
            let (q, a) = child_show t k (suc m) (record { low = omega arith; is = j; of = e }) in
            let w = row-whole size d (at c.firsts k + 1) (at c.firsts k + 1) (children t k) own_row q (suc m) a in
            let u = (row_inside size d (at c.firsts k + 1) (at c.firsts k + 1) (children t k) own_row q (suc m) a).1 in
            omega (arith, room-here)
        go (no e) =
            rw (off (suc m) (λ n. let (q, a) = mem-at (children t k) (suc m) n in e (child-read t k q (suc m) a).of)).first_same
            (h.room (suc m) j (omega arith))

    pub laid_next : Laid t size (suc k) d
    laid_next =
        let e = early 0 (omega arith) in
        record {
          long = spread-long size c (at c.firsts k + 1) (at c.firsts k + 1) (children t k) h.long;
          rows = rows_next;
          room = room_next;
          root_first = e.first_same ∙ h.root_first;
          root_end = e.end_same ∙ h.root_end;
          root_from = e.from_same ∙ h.root_from;
          root_to = e.to_same ∙ h.root_to;
        }

  -- ---- in the end
  pub spans : (c : Cols) → Is t 0 → Laid t size (length t) c → Spans t (at c.firsts) (at c.ends) (at c.froms) (at c.tos)
  spans c o h = record {
    some = some;
    few = few_end;
    under = λ f i s a. under f i s a;
    beside = λ f i u v a b. (met f i u v a b).meets;
    elder = λ f i u v a b. (met f i u v a b).from_is;
    eldest = λ f v a. row_first size c (at c.firsts f + 1) (children t f) (row f 0 v a) v a;
    younger = λ f i u v a b. (met f i u v a b).to_is;
    youngest = λ f i u a e. row_last size c (at c.firsts f + 1) (at c.firsts f + 1) (children t f) (row f i u a) i u a e;
    hit = λ k l. hit (length t) 0 (omega arith) o k (omega (arith, h.root_first)) l;
    root_first = h.root_first;
    root_from = h.root_from ∙ sym h.root_first;
    root_to = h.root_to ∙ sym h.root_end;
  }
    where
      above : (f i s : ℕ) → At (children t f) i s → Is t f
      above f i s a = let (l, j) = child_less t sound f i s a in omega arith

      row : (f i s : ℕ) → At (children t f) i s → Row size c (at c.firsts f + 1) (at c.firsts f + 1) (children t f)
      row f i s a = h.rows f (above f i s a) (above f i s a)

      whole : (x : ℕ) → Is t x → at c.ends x ≡ at c.firsts x + size x
      whole zero i = omega (arith, h.root_first, h.root_end)
      whole (suc m) i =
          let (q, a) = child_show t (parent t (suc m)) (suc m) (record { low = omega arith; is = i; of = refl }) in
          row-whole size c _ _ (children t (parent t (suc m))) (row (parent t (suc m)) q (suc m) a) q (suc m) a

      hit : (d x : ℕ) → length t ≤ x + d → Is t x → (k : ℕ) → at c.firsts x ≤ k → k < at c.ends x → Numbered t (at c.firsts) k
      hit zero x f i k p q = absurd (omega arith)
      hit (suc d) x f i k p q = go (ℕ_discrete (at c.firsts x) k) (hit d)
        where
          go : Dec (at c.firsts x ≡ k) → ((x : ℕ) → length t ≤ x + d → Is t x → (k : ℕ) → at c.firsts x ≤ k → k < at c.ends x → Numbered t (at c.firsts) k) → Numbered t (at c.firsts) k
          go (yes e) r = record { cell = x; is = i; so = e }
          go (no e) r =
              let w = row_find size c (at c.firsts x + 1) (at c.firsts x + 1) (children t x) (h.rows x i i) k (omega arith) (omega (arith, whole x i, z.parts x i)) in
              let (l, j) = child_less t sound x w.i w.s w.place in
              r w.s (omega arith) j k w.low w.high

      few_end : (x : ℕ) → Is t x → at c.ends x ≤ length t
      few_end zero i = omega (arith, whole zero i, h.room zero i tt)
      few_end (suc m) i = omega (arith, whole (suc m) i, h.room (suc m) i (omega (arith, sound (suc m) (omega arith) i)))

      some : (x : ℕ) → Is t x → at c.firsts x < at c.ends x
      some x i = omega (arith, whole x i, z.parts x i)

      under : (f i s : ℕ) → At (children t f) i s → (at c.firsts f < at c.firsts s) × (at c.ends s ≤ at c.ends f)
      under f i s a =
          let u = row_inside size c (at c.firsts f + 1) (at c.firsts f + 1) (children t f) (row f i s a) i s a in
          (omega arith, omega (arith, whole f (above f i s a), z.parts f (above f i s a)))

      met : (f i u v : ℕ) → At (children t f) i u → At (children t f) (suc i) v → Met size c u v
      met f i u v a b = row-beside size c (at c.firsts f + 1) (at c.firsts f + 1) (children t f) (row f i u a) i u v a b
