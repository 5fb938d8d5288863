-- Siblings by their places among the children: what `ahead`, `next` and `earlier` come to. Assumes nothing.
use Rattle.std.specs.Prelude.{ℕ, suc}
use Rattle.std.proofs.Math.Dec.{T}
use Rattle.whole.specs.Says.{Says}
use Rattle.whole.proofs.Laws.Says.{that_is}
use Rattle.plan.specs.Lists.{some}
use Rattle.plan.proofs.Laws.Lists.{Some, some_read, some_show, Ahead, Next, says_ahead_in, says_next_in}
use Rattle.plan.specs.Plan.{Table, Is, parent, children, path, within, ahead, next, earlier}
use Rattle.plan.proofs.Laws.Plan.{child-read}

module _ (t : Table) where
  pub record Elder (p q : ℕ) : Type 0 where
    pub c : ℕ
    pub order : Ahead (children t c) p q

  pub record Neighbours (u v : ℕ) : Type 0 where
    pub c : ℕ
    pub order : Next (children t c) u v

  pub says_ahead : (p q : ℕ) → Says (ahead t p q) (Elder p q)
  unfolding ahead
  says_ahead p q =
      that_is (says_ahead_in (children t (parent t p)) p q) (λ h. record { c = parent t p; order = h })
      (λ e. rw (child-read t e.c e.order.i p e.order.first).of e.order)

  pub says_next : (u v : ℕ) → Says (next t u v) (Neighbours u v)
  unfolding next
  says_next u v =
      that_is (says_next_in (children t (parent t u)) u v) (λ h. record { c = parent t u; order = h })
      (λ e. rw (child-read t e.c e.order.i u e.order.first).of e.order)

  pub next-is : (u v : ℕ) → T (next t u v) → Is t u × Is t v
  next-is u v h =
      let e : Neighbours u v = (says_next u v).read h in
      ((child-read t e.c e.order.i u e.order.first).is, (child-read t e.c (suc e.order.i) v e.order.second).is)

  -- a at or below one sibling, b at or below a later one
  pub record Earlier (a b : ℕ) : Type 0 where
    pub p : ℕ
    pub q : ℕ
    pub elder : Elder p q
    pub a_under : T (within t p a)
    pub b_under : T (within t q b)

  pub says_earlier : (a b : ℕ) → Says (earlier t a b) (Earlier a b)
  unfolding earlier within
  says_earlier a b = record { read = there; show = back }
    where
      inner : (p : ℕ) → T (within t p a) → Some (λ q. ahead t p q) (path t b) → Earlier a b
      inner p h s = record { p = p; q = s.at; elder = (says_ahead p s.at).read s.passes; a_under = h; b_under = s.there }

      there : T (some (λ p. some (λ q. ahead t p q) (path t b)) (path t a)) → Earlier a b
      there h =
          let s : Some (λ p. some (λ q. ahead t p q) (path t b)) (path t a) = some_read _ (path t a) h in
          inner s.at s.there (some_read _ (path t b) s.passes)

      back : Earlier a b → T (some (λ p. some (λ q. ahead t p q) (path t b)) (path t a))
      back e = some_show _ (path t a) e.p e.a_under (some_show _ (path t b) e.q e.b_under ((says_ahead e.p e.q).show e.elder))
