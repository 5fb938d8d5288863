-- What the children of a cell are: these, each once, in this order. Assumes nothing.
use Rattle.std.specs.Prelude.{◌≡◌, refl, List, ℕ, pred, ◌+◌, max, ◌≤◌, ◌<◌, length}
use Rattle.std.proofs.Common.{inl, inr, arith, eqb→eq, ne_eqb}
use Rattle.std.proofs.Math.Decide.{ℕ_discrete}
use Rattle.std.proofs.Math.Dec.{T, eqb, eqb_refl}
use Rattle.plan.specs.Lists.{At, index, from, mem, total}
use Rattle.plan.proofs.Laws.Lists.{mem-at, at_mem, at_get_or, index_at, Kept, keep-read, keep_show, from-read, from_show, keep_short}
use Rattle.plan.proofs.Laws.Sort.{Before, Ordered, ordered_at, ordered_once, ordered_same, sort-length, sort-total, sort-read, sort_show, sort_ordered, sort-level}
use Rattle.plan.specs.Plan.{Table, Is, kind, parent, rank, cells, filed, children, child, appointed, place, subtree, within, Child}

-- THE order of siblings (request E13): an earlier one has a lower rank, or the same rank and a lower number
pub children_ordered : (t : Table) (c : ℕ) → Ordered (rank t) (children t c)
unfolding children filed
children_ordered t c = sort_ordered (rank t) (λ s. eqb (parent t s) c) 1 (pred (length t))

pub child-before : (t : Table) (c i j s r : ℕ) → i < j → At (children t c) i s → At (children t c) j r → Before (rank t) s r
child-before t c i j s r = ordered_at (rank t) (children t c) (children_ordered t c) i j s r

-- a tie keeps file order
pub child_tie : (t : Table) (c i j s r : ℕ) → i < j → At (children t c) i s → At (children t c) j r → rank t s ≡ rank t r → s < r
child_tie t c i j s r h p q e = elim (child-before t c i j s r h p q) [ inl k ↦ absurd (omega arith) | inr k ↦ k.1 ]

-- the members
pub child-read : (t : Table) (c i s : ℕ) → At (children t c) i s → Child t c s
unfolding children filed
child-read t c i s h =
    let k : Kept (λ s. eqb (parent t s) c) (from 1 (pred (length t))) s = keep-read _ _ s (sort-read _ (filed t c) s (at_mem _ i s h)) in
    let b : (1 ≤ s) × (s < 1 + pred (length t)) = from-read 1 (pred (length t)) s k.there in
    record { low = b.0; is = omega arith; of = eqb→eq (parent t s) c k.passes }

child-mem : (t : Table) (c s : ℕ) → Child t c s → T (mem s (children t c))
unfolding children filed
child-mem t c s h = sort_show _ (filed t c) s (keep_show _ _ s (from_show 1 (pred (length t)) s h.low (omega arith)) (rw h.of (eqb_refl c)))

pub child_show : (t : Table) (c s : ℕ) → Child t c s → (i : ℕ) × At (children t c) i s
child_show t c s h = mem-at (children t c) s (child-mem t c s h)

pub child-index : (t : Table) (c s : ℕ) → Child t c s → At (children t c) (index s (children t c)) s
child-index t c s h = index_at (children t c) s (child-mem t c s h)

-- a child has one place
pub child-place : (t : Table) (c i j s : ℕ) → At (children t c) i s → At (children t c) j s → i ≡ j
child-place t c i j s p q = ordered_once (rank t) (children t c) (children_ordered t c) i j s p q

-- as many as in file order
pub children-length : (t : Table) (c : ℕ) → length (children t c) ≡ length (filed t c)
unfolding children
children-length t c = sort-length _ (filed t c)

pub children_few : (t : Table) (c : ℕ) → length (children t c) ≤ length t
children_few t c = rw (children-length t c) (unfold filed in omega (arith, keep_short (λ s. eqb (parent t s) c) 1 (pred (length t))))

pub children-total : (t : Table) (h : ℕ → ℕ) (c : ℕ) → total h (children t c) ≡ total h (filed t c)
unfolding children
children-total t h c = sort-total _ h (filed t c)

-- no other list has these members in this order
pub children-only : (t : Table) (c : ℕ) (l : List ℕ) → Ordered (rank t) l → ((i s : ℕ) → At l i s → Child t c s) → ((s : ℕ) → Child t c s → T (mem s l)) → l ≡ children t c
children-only t c l o to fro =
    ordered_same (rank t) l (children t c) o (children_ordered t c) (λ s m. let (i, h) = mem-at l s m in child-mem t c s (to i s h))
    (λ s m. let (i, h) = mem-at (children t c) s m in fro s (child-read t c i s h))

-- siblings of one rank stand in file order
pub children-level : (t : Table) (c : ℕ) → ((s r : ℕ) → Child t c s → Child t c r → rank t s ≡ rank t r) → children t c ≡ filed t c
children-level t c h = unfold children in sort-level (rank t) (filed t c) (λ s r p q. h s r (filed-read s p) (filed-read r q))
  where
    filed-read : (s : ℕ) → T (mem s (filed t c)) → Child t c s
    filed-read s m = let (i, k) = mem-at (children t c) s (unfold children in sort_show _ (filed t c) s m) in child-read t c i s k

-- document 02, E6: "for kind 4 the son is number 1",
pub appointed_choice : (k : ℕ) → appointed 4 k ≡ 1
unfolding appointed
appointed_choice k = refl

-- "for all others as before": document 01's (k+1)/2, rounded up
pub appointed-half : (kind k : ℕ) → ¬ (kind ≡ 4) → (k + 1 ≤ appointed kind k + appointed kind k) × (appointed kind k + appointed kind k ≤ k + 1 + 1)
unfolding appointed
appointed-half kind k n = rw (ne_eqb kind 4 n) (omega arith, omega arith)

-- THE law of the appointed child: its number is one of 1 to k (1 where there is no child). What stands above crate plan rests on no other
pub appointed-within : (kind k : ℕ) → (1 ≤ appointed kind k) × (appointed kind k ≤ max 1 k)
appointed-within kind k = go (ℕ_discrete kind 4)
  where
    go : Dec (kind ≡ 4) → (1 ≤ appointed kind k) × (appointed kind k ≤ max 1 k)
    go (yes e) = let h = appointed_choice k in rw e (omega arith, omega arith)
    go (no n) = let h = appointed-half kind k n in (omega arith, omega arith)

-- its place, from 0, is below the number of children
pub place-below : (t : Table) (c n : ℕ) → 1 ≤ n → place t c n < n
place-below t c n h = let i : pred (appointed (kind t c) n) < n = omega (arith, appointed-within (kind t c) n) in i

-- the appointed child
pub appointed-at : (t : Table) (c : ℕ) → 1 ≤ length (children t c)
    → At (children t c) (place t c (length (children t c))) (child t c (appointed (kind t c) (length (children t c))))
unfolding child
appointed-at t c h = at_get_or (children t c) _ 0 (place-below t c _ h)

-- ---- lists of cells
pub subtree-read : (t : Table) (c a : ℕ) → T (mem a (subtree t c)) → Is t a × T (within t c a)
unfolding subtree cells
subtree-read t c a h = (omega (arith, (from-read 0 (length t) a (keep-read _ _ a h).there).1), (keep-read _ (from 0 (length t)) a h).passes)

pub subtree_show : (t : Table) (c a : ℕ) → Is t a → T (within t c a) → T (mem a (subtree t c))
unfolding subtree cells
subtree_show t c a i h = keep_show _ _ a (from_show 0 (length t) a (omega arith) (omega arith)) h

pub cells-read : (t : Table) (a : ℕ) → T (mem a (cells t)) → Is t a
unfolding cells
cells-read t a h = omega (arith, (from-read 0 (length t) a h).1)

pub cells_show : (t : Table) (a : ℕ) → Is t a → T (mem a (cells t))
unfolding cells
cells_show t a i = from_show 0 (length t) a (omega arith) (omega arith)
