-- What the order of finishing promises: each cell once, children before their parent, each sibling's whole subtree before the next's. Assumes nothing.
use Rattle.std.specs.Prelude.{◌≡◌, ◌⊎◌, List, [], ◌∷◌, ℕ, zero, suc, ◌<◌, length, get_or, T}
use Rattle.std.proofs.Common.{ap, sym, inl, inr, arith}
use Rattle.std.proofs.Math.Decide.{dec_lt, ℕ_discrete}
use Rattle.plan.specs.Lists.{At}
use Rattle.plan.proofs.Laws.Lists.{at_get_or, at_mem, mem-at}
use Rattle.plan.specs.Plan.{Table, Is, children, earlier}
use Rattle.plan.proofs.Laws.Plan.{child-read}
use Rattle.plan.proofs.Laws.Paths.{child_less, within-below}
use Rattle.plan.proofs.Laws.Siblings.{Earlier, says_earlier}
use Rattle.plan.specs.Fit.{Fit}
use Rattle.folding.proofs.Laws.Lists.{at_get}
use Rattle.finishing_order.specs.Postorder.{postorder}
use Rattle.finishing_order.proofs.Laws.Members.{Stays, Ordered, order_has, order_is, order_ordered, order_length}
use Rattle.finishing_order.proofs.Laws.Siblings as siblings

order_of : (i j : ℕ) → (i < j) ⊎ ((i ≡ j) ⊎ (j < i))
order_of i j = elim (dec_lt i j) [
  | yes l ↦ inl l
  | no ge ↦ elim (ℕ_discrete i j) [ yes e ↦ inr (inl e) | no ne ↦ inr (inr (omega arith)) ]
]

-- ---- the order: every cell once, children before their parent
ordered_at : (t : Table) (l : List ℕ) → Ordered t l → (i j : ℕ) → i < j → j < length l → Stays t (get_or l i 0) (get_or l j 0)
ordered_at t [] o i j a b = absurd (omega arith)
ordered_at t (x ∷ l) o i zero a b = absurd (omega arith)
ordered_at t (x ∷ l) o zero (suc j) a b = o.0 (get_or l j 0) (at_mem l j (get_or l j 0) (at_get_or l j 0 (omega arith)))
ordered_at t (x ∷ l) o (suc i) (suc j) a b = ordered_at t l o.1 i j (omega arith) (omega arith)

module _ (t : Table) (fit : Fit t) where
  pub size : length (postorder t) ≡ length t
  size = order_length t fit.sound fit.some_cell

  abbrev nth : ℕ → ℕ
  nth i = get_or (postorder t) i 0

  -- every cell is finished by some step
  pub finished-by : (x : ℕ) → Is t x → (i : ℕ) × (i < length t) × (nth i ≡ x)
  finished-by x h =
      let (i, a) = mem-at (postorder t) x (order_has t fit.sound x h) in
      let (e, l) = at_get (postorder t) i x a in
      (i, omega (arith, size), e)

  -- and by one only
  pub finished-once : (i j : ℕ) → i < length t → j < length t → nth i ≡ nth j → i ≡ j
  finished-once i j a b e = elim (order_of i j) [
    | inl l ↦ absurd ((ordered_at t (postorder t) (order_ordered t fit.sound) i j l (omega (arith, size))).0 (sym e))
    | inr (inl q) ↦ q
    | inr (inr l) ↦ absurd ((ordered_at t (postorder t) (order_ordered t fit.sound) j i l (omega (arith, size))).0 e)
  ]

  -- a child before its parent
  pub children-first : (i j p : ℕ) → i < length t → j < length t → At (children t (nth i)) p (nth j) → j < i
  children-first i j p a b h =
      let k = child-read t (nth i) p (nth j) h in
      elim (order_of i j) [
        | inl l ↦ absurd ((ordered_at t (postorder t) (order_ordered t fit.sound) i j l (omega (arith, size))).1 k.low k.of)
        | inr (inl q) ↦ absurd (omega (arith, ap nth q, child_less t fit.sound (nth i) p (nth j) h))
        | inr (inr l) ↦ l
      ]

  -- a sibling's whole subtree before the next's
  pub siblings_first : (i j : ℕ) → i < length t → j < length t → T (earlier t (nth i) (nth j)) → i < j
  siblings_first i j a b h =
      let e : Earlier t (nth i) (nth j) = (says_earlier t (nth i) (nth j)).read h in
      let o = e.elder.order in
      let is : (k : ℕ) → k < length t → Is t (nth k) = (λ k l. order_is t fit.sound fit.some_cell (nth k) (at_mem (postorder t) k (nth k) (at_get_or (postorder t) k 0 (omega (arith, size))))) in
      siblings.siblings_first t fit.sound i j (omega (arith, size)) (omega (arith, size)) (record {
        of = e.elder.c;
        i = o.i;
        j = o.j;
        p = e.p;
        q = e.q;
        less = o.less;
        first = o.first;
        second = o.second;
        a_below = within-below t fit.sound e.p (nth i) (is i a) e.a_under;
        b_below = within-below t fit.sound e.q (nth j) (is j b) e.b_under;
      })
