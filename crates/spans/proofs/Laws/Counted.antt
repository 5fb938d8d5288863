-- The number of each cell among its siblings, from 1, and of its children. Assumes nothing.
use Rattle.std.specs.Prelude.{◌≡◌, ◌&&◌, List, eqb}
use Rattle.std.proofs.Common.{ap, arith}
use Prim.Native.Nat.{ℕ, zero, suc, pred, ◌+◌, ◌≤◌}
use Rattle.std.proofs.Math.ListN.{length}
use Rattle.whole.proofs.Laws.Says.{that_is, both, says_le, says_eq, same_test}
use Rattle.plan.specs.Lists.{At}
use Rattle.plan.proofs.Laws.Lists.{at_less, at_same}
use Rattle.plan.specs.Plan.{Table, Is, kind, parent, children, child, appointed}
use Rattle.plan.proofs.Laws.Plan.{child-read, child_show, appointed-at, appointed-within}
use Rattle.rules.specs.Tests.{flush}
use Rattle.links.specs.Links.{link, Links}
use Rattle.spans.specs.Spans.{Counted}

module _ (t : Table) where
  -- from the places and from the numbers of children
  pub counted : {ls : List ℕ} → Links t ls → {nth many : ℕ → ℕ} → nth 0 ≡ 0 → ((c : ℕ) → 1 ≤ c → Is t c → nth c ≡ link ls c 2 + 1) → ((f : ℕ) → Is t f → many f ≡ length (children t f)) → Counted t nth many
  counted h r p m = record {
    root = r;
    placed = λ f i s a. let c = child-read t f i s a in omega (arith, p s c.low c.is, h.place_of f i s a);
    all = m;
  }

  -- b is the child with whom a is flush
  pub flush-is : {nth many : ℕ → ℕ} → Counted t nth many → (a b : ℕ) → Is t a → Is t b
      → (eqb (parent t b) a && eqb (nth b) (appointed (kind t a) (many a))) ≡ flush t a b
  unfolding flush
  flush-is {nth} {many} h a b ia ib =
      same_test (that_is (both (says_eq (parent t b) a) (says_eq (nth b) (appointed (kind t a) (many a)))) (λ k. there b ib k.0 k.1) (λ k. back k.0 k.1))
      (both (says_le 1 (length (children t a))) (says_eq (child t a (appointed (kind t a) (length (children t a)))) b))
    where
      k : ℕ
      k = length (children t a)

      many_is : appointed (kind t a) (many a) ≡ appointed (kind t a) k
      many_is = ap (appointed (kind t a)) (h.all a ia)

      first : 1 ≤ appointed (kind t a) k
      first = (appointed-within (kind t a) k).0

      Flush : ℕ → Type 0
      Flush b = (1 ≤ k) × (child t a (appointed (kind t a) k) ≡ b)

      there : (b : ℕ) → Is t b → parent t b ≡ a → nth b ≡ appointed (kind t a) (many a) → Flush b
      there zero is e q = absurd (omega (arith, h.root, first, many_is))
      there (suc b) is e q =
          let (i, m) = child_show t a (suc b) (record { low = omega arith; is = is; of = e }) in
          let some : 1 ≤ k = omega (arith, at_less (children t a) i (suc b) m) in
          let place : pred (appointed (kind t a) k) ≡ i = omega (arith, h.placed a i (suc b) m, many_is) in
          (some, at_same (children t a) i _ (suc b) (rw place at (appointed-at t a some)) m)

      back : 1 ≤ k → child t a (appointed (kind t a) k) ≡ b → (parent t b ≡ a) × (nth b ≡ appointed (kind t a) (many a))
      back some e =
          let m : At (children t a) (pred (appointed (kind t a) k)) b = rw e at (appointed-at t a some) in
          ((child-read t a _ b m).of, omega (arith, h.placed a _ b m, many_is, first))
