-- The joined columns, cell by cell, and the table that they make. Assumes nothing.
use Rattle.std.specs.Prelude.{◌≡◌, List, ℕ, zero, suc, ◌+◌, ◌-◌, ◌≤◌, ◌<◌, get_or, set, replicate}
use Rattle.std.proofs.Math.Path.{refl, sym}
use Rattle.std.proofs.Common.{ap, ◌∙◌, add-one, ext_get_or}
use native.Mathlib.Omega.{arith}
use Rattle.std.proofs.Math.Decide.{dec_lt}
use borrow.Author.Tests.{lt-ltb, le-ltb, eq-eqb, ne_eqb}
use Rattle.std.proofs.Math.ListN.{length}
use Rattle.plan.specs.Limits.{most_cells}
use Rattle.plan.specs.Plan.{Cell, Table, blank, parent, kind, box_width, box_depth, rank}
use Rattle.plan.specs.Columns.{table_of}
use Rattle.plan.proofs.Laws.Tables.{length-is, parent_is, kind-is, width_is, depth_is, rank_is}
use Rattle.plan.specs.declared.Columns.{Columns}
use Rattle.plan.specs.declared.Lettered.{Lettered}
use Rattle.planfile_spec.specs.Reading.{column}
use Rattle.planfile_spec.proofs.Laws.Examined.{column-at}
use Rattle.graft.specs.Joined.{joined}
use Rattle.graft.proofs.Laws.Joined.{length-joined, first-parent, first_kind, first_width, first_depth, first-rank, root_parent, second-parent, second-kind, second-width, second_depth, second-rank}
use Rattle.grafting.specs.Grafted.{picked_of, column_of, picked, picked_parent, grafted, Hangs, Graftable, accepted}

-- ---- one value
module _ {A : Type 0} (z : A) (n : ℕ) (xs ys : List A) (i : ℕ) where
  pub first_of : i < n → get_or xs i z ≡ picked_of z n xs ys i
  unfolding picked_of
  first_of h = rw (lt-ltb i n h)

  pub second-of : n ≤ i → get_or ys (i - n) z ≡ picked_of z n xs ys i
  unfolding picked_of
  second-of h = rw (le-ltb i n h)

-- ---- one number
module _ (n : ℕ) (xs ys : List ℕ) (i : ℕ) where
  pub picked_first : i < n → get_or xs i 0 ≡ picked n xs ys i
  unfolding picked
  picked_first h = first_of 0 n xs ys i h

  pub picked-second : n ≤ i → get_or ys (i - n) 0 ≡ picked n xs ys i
  unfolding picked
  picked-second h = second-of 0 n xs ys i h

  pub parent-first : (c : ℕ) → i < n → get_or xs i 0 ≡ picked_parent n c xs ys i
  unfolding picked_parent
  parent-first c h = rw (lt-ltb i n h)

  pub parent_root : (c : ℕ) → n ≤ i → i ≡ n → c ≡ picked_parent n c xs ys i
  unfolding picked_parent
  parent_root c h e = rw (le-ltb i n h, eq-eqb i n e)

  pub parent-second : (c : ℕ) → n ≤ i → (i ≡ n → ⊥) → n + get_or ys (i - n) 0 ≡ picked_parent n c xs ys i
  unfolding picked_parent
  parent-second c h e = rw (le-ltb i n h, ne_eqb i n e)

-- ---- the loops
module _ {A : Type 0} (z : A) (f : ℕ → A) where
  pub values-none : replicate most_cells z ≡ column_of z f 0
  unfolding column_of
  values-none = refl

  pub values-more : (k : ℕ) (xs : List A) (v : A) → xs ≡ column_of z f k → v ≡ f k → set xs k v ≡ column_of z f (k + 1)
  unfolding column_of
  values-more k xs v e q = rw (add-one, e, q)

  pub values-all : (i k : ℕ) (xs : List A) → xs ≡ column_of z f i → i ≡ k → xs ≡ column_of z f k
  values-all i k xs e q = rw (← q) e

-- of numbers, with zeros
pub column-is : (f : ℕ → ℕ) (k : ℕ) → column_of 0 f k ≡ column f k
unfolding column_of column
column-is f zero = refl
column-is f (suc k) = ap (λ (xs : List ℕ). set xs k (f k)) (column-is f k)

pub column-none : (f : ℕ → ℕ) → replicate most_cells 0 ≡ column f 0
column-none f = values-none 0 f ∙ column-is f 0

pub column-more : (f : ℕ → ℕ) (k : ℕ) (xs : List ℕ) (v : ℕ) → xs ≡ column f k → v ≡ f k → set xs k v ≡ column f (k + 1)
column-more f k xs v e q = values-more 0 f k xs v (e ∙ sym (column-is f k)) q ∙ column-is f (k + 1)

pub column-all : (f : ℕ → ℕ) (i k : ℕ) (xs : List ℕ) → xs ≡ column f i → i ≡ k → xs ≡ column f k
column-all f i k xs e q = rw (← q) e

pub column-picked : (n k : ℕ) (xs ys : List ℕ) → column_of 0 (picked_of 0 n xs ys) k ≡ column (picked n xs ys) k
unfolding picked
column-picked n k xs ys = column-is (picked_of 0 n xs ys) k

pub hangs_at : (us : List ℕ) (n c k i : ℕ) → Hangs us n c k → i < k → (i < most_cells) × (n ≤ most_cells) × (c < most_cells) × (n < i → get_or us (i - n) 0 < most_cells)
hangs_at us n c k i h l = (omega (arith, h.few), h.first, h.named, λ p. h.lower i p l)

pub graftable_hangs : (t u : Columns) (c : ℕ) → Graftable t u c → Hangs u.parent t.count c (t.count + u.count)
graftable_hangs t u c g =
    record {
      few = g.few;
      first = omega (arith, g.few);
      named = omega (arith, g.few, g.named);
      lower = λ i p l. omega (arith, g.lower (i - t.count) (omega arith) (omega arith), g.few);
    }

-- ---- put together
pub columns_are : (t u : Columns) (c : ℕ) (ps ks ws ds qs : List ℕ) → ps ≡ column (picked_parent t.count c t.parent u.parent) (t.count + u.count)
    → ks ≡ column (picked t.count t.kind u.kind) (t.count + u.count) → ws ≡ column (picked t.count t.width u.width) (t.count + u.count)
    → ds ≡ column (picked t.count t.depth u.depth) (t.count + u.count) → qs ≡ column (picked t.count t.rank u.rank) (t.count + u.count)
    → ◌≡◌ {A = Columns} (record { count = t.count + u.count; parent = ps; kind = ks; width = ws; depth = ds; rank = qs }) (grafted t u c)
unfolding grafted
columns_are t u c ps ks ws ds qs p k w d q = rw (p, k, w, d, q)

pub accepts : (t u : Lettered) (j : Columns) (ls ss : List ℕ) → ls ≡ column (picked t.columns.count t.label_length u.label_length) j.count
    → ss ≡ column (picked t.columns.count t.label_start u.label_start) j.count
    → ◌≡◌ {A = Lettered} (record { columns = j; label_length = ls; label_start = ss }) (accepted t u j)
unfolding accepted
accepts t u j ls ss p q = rw (p, q)

-- ---- the table that they make
cell_same : (x y : Cell) → x.parent ≡ y.parent → x.kind ≡ y.kind → x.width ≡ y.width → x.depth ≡ y.depth → x.rank ≡ y.rank → x ≡ y
cell_same x y p k w d q = λ i. record { parent = p i; kind = k i; width = w i; depth = d i; rank = q i }

module _ (t u : Columns) (c : ℕ) (some_second : 1 ≤ u.count) (few : t.count + u.count ≤ most_cells) where
  first-number : (xs ys : List ℕ) (i : ℕ) → i < t.count → get_or (column (picked t.count xs ys) (t.count + u.count)) i 0 ≡ get_or xs i 0
  first-number xs ys i h = column-at _ (t.count + u.count) i few (omega arith) ∙ sym (picked_first t.count xs ys i h)

  second-number : (xs ys : List ℕ) (j : ℕ) → j < u.count → get_or (column (picked t.count xs ys) (t.count + u.count)) (t.count + j) 0 ≡ get_or ys j 0
  second-number xs ys j h =
      let e : t.count + j - t.count ≡ j = omega arith in
      column-at _ (t.count + u.count) (t.count + j) few (omega arith) ∙ sym (rw e at (picked-second t.count xs ys (t.count + j) (omega arith)))

  abbrev T : Table
  T = table_of t

  abbrev U : Table
  U = table_of u

  pub grafted-count : (grafted t u c).count ≡ t.count + u.count
  unfolding grafted
  grafted-count = refl

  at_first : (i : ℕ) → i < t.count → get_or (table_of (grafted t u c)) i blank ≡ get_or (joined T U c) i blank
  unfolding grafted parent kind box_width box_depth rank
  at_first i h =
      let k : i < t.count + u.count = omega arith in
      let is : i < length T = omega (arith, length-is t) in
      cell_same _ _
      (parent_is (grafted t u c) i k ∙ column-at _ (t.count + u.count) i few k ∙ sym (parent-first t.count t.parent u.parent i c h) ∙ sym (first-parent T U c i is ∙ parent_is t i h))
      (kind-is (grafted t u c) i k ∙ first-number t.kind u.kind i h ∙ sym (first_kind T U c i is ∙ kind-is t i h))
      (width_is (grafted t u c) i k ∙ first-number t.width u.width i h ∙ sym (first_width T U c i is ∙ width_is t i h))
      (depth_is (grafted t u c) i k ∙ first-number t.depth u.depth i h ∙ sym (first_depth T U c i is ∙ depth_is t i h))
      (rank_is (grafted t u c) i k ∙ first-number t.rank u.rank i h ∙ sym (first-rank T U c i is ∙ rank_is t i h))

  -- the parent of the second's cell j
  parent_there : (j : ℕ) → j < u.count → picked_parent t.count c t.parent u.parent (t.count + j) ≡ parent (joined T U c) (t.count + j)
  parent_there zero h =
      let e : t.count + 0 ≡ t.count = omega arith in
      let q : parent (joined T U c) t.count ≡ c = rw (length-is t) at (root_parent T U c (omega (arith, length-is u))) in
      sym (parent_root t.count t.parent u.parent (t.count + 0) c (omega arith) e) ∙ sym (ap (parent (joined T U c)) e ∙ q)
  parent_there (suc j) h =
      let e : t.count + suc j - t.count ≡ suc j = omega arith in
      sym (rw e at (parent-second t.count t.parent u.parent (t.count + suc j) c (omega arith) (omega arith)))
      ∙ ap (λ (x : ℕ). t.count + x) (sym (parent_is u (suc j) h))
      ∙ sym (rw (length-is t) at (second-parent T U c (suc j) (omega arith) (omega (arith, length-is u))))

  at_second : (j : ℕ) → j < u.count → get_or (table_of (grafted t u c)) (t.count + j) blank ≡ get_or (joined T U c) (t.count + j) blank
  unfolding grafted parent kind box_width box_depth rank
  at_second j h =
      let k : t.count + j < t.count + u.count = omega arith in
      let is : j < length U = omega (arith, length-is u) in
      cell_same _ _
      (parent_is (grafted t u c) (t.count + j) k ∙ column-at _ (t.count + u.count) (t.count + j) few k ∙ parent_there j h)
      (kind-is (grafted t u c) (t.count + j) k ∙ second-number t.kind u.kind j h ∙ sym (rw (length-is t) at (second-kind T U c j is) ∙ kind-is u j h))
      (width_is (grafted t u c) (t.count + j) k ∙ second-number t.width u.width j h ∙ sym (rw (length-is t) at (second-width T U c j is) ∙ width_is u j h))
      (depth_is (grafted t u c) (t.count + j) k ∙ second-number t.depth u.depth j h ∙ sym (rw (length-is t) at (second_depth T U c j is) ∙ depth_is u j h))
      (rank_is (grafted t u c) (t.count + j) k ∙ second-number t.rank u.rank j h ∙ sym (rw (length-is t) at (second-rank T U c j is) ∙ rank_is u j h))

  -- the columns hold THE joined table
  pub grafted-table : table_of (grafted t u c) ≡ joined T U c
  grafted-table = ext_get_or blank _ _ (omega (arith, length-is (grafted t u c), grafted-count, length-joined T U c, length-is t, length-is u)) (λ i h. go i h (dec_lt i t.count))
    where
      go : (i : ℕ) → i < length (table_of (grafted t u c)) → Dec (i < t.count) → get_or (table_of (grafted t u c)) i blank ≡ get_or (joined T U c) i blank
      go i h (yes l) = at_first i l
      go i h (no l) = let e : t.count + (i - t.count) ≡ i = omega arith in rw e at (at_second (i - t.count) (omega (arith, length-is (grafted t u c), grafted-count)))
