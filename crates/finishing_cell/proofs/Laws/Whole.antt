-- All steps together are the walk. Assumes nothing.
use Rattle.std.specs.Prelude.{◌≡◌, ℕ, zero, suc, ◌+◌, ◌*◌, ◌≤◌, ◌<◌, length, get_or, replicate}
use Rattle.std.proofs.Math.Path.{refl, ap, subst}
use Rattle.std.proofs.Common.{◌∙◌, sym, arith, take-suc}
use mathlib.Core.List.{List, [], ◌∷◌}
use Rattle.std.proofs.Math.ListN.{take}
use Rattle.std.proofs.lemmas.List.{length-replicate}
use Rattle.std.proofs.Math.Seq.{take-length}
use Rattle.contours.proofs.Laws.Forest.{Forest, forest, grown}
use Rattle.joining.specs.Joining.{Memory, memory_of}
use Rattle.links.specs.Links.{link}
use Rattle.links.proofs.Laws.Linked.{zeros_get}
use Rattle.plan.specs.Limits.{scratch_size, second_size}
use Rattle.plan.specs.Plan.{Table, Is, box_width, box_depth, level}
use Rattle.walk.specs.Machine.{Chart, wide, deep, root_closed}
use Rattle.walk.specs.Walked.{Suits}
use Rattle.walk.proofs.Laws.Machine.{step_end, Safe}
use Rattle.walk.proofs.Laws.Tree.{tail_all, sum}
use Rattle.walk.proofs.Laws.Walked.{End, safe}
use Rattle.finishing_order.specs.Postorder.{postorder}
use Rattle.finishing_cell.specs.Made.{finishes, work, cleared, worked}
use Rattle.finishing_order.proofs.Laws.Postorder.{post, post-all}
use Rattle.finishing_order.proofs.Laws.Members.{order_length}
use Rattle.finishing_cell.proofs.Laws.Passed.{Ready, Passes, work-append, passes_append, passed}

passes_at : (t : Table) (b : Chart) (l : List ℕ) (m : Memory) → Passes t b l m → (k : ℕ) → k < length l → Ready t b (get_or l k 0) (work t b.allowance (take k l) m)
unfolding work
passes_at t b [] m p k l = absurd (omega arith)
passes_at t b (c ∷ cs) m p zero l = p.0
passes_at t b (c ∷ cs) m p (suc k) l = passes_at t b cs (finishes t b.allowance c m) p.1 k (omega arith)

module _ (t : Table) (b : Chart) (su : Suits t b) where
  abbrev al : ℕ
  al = b.allowance

  abbrev pub xs : List ℕ
  xs = replicate scratch_size 0

  abbrev pub ms : List ℕ
  ms = replicate (second_size) 0

  pub lx : scratch_size ≤ length xs
  lx = rw (length-replicate {A = ℕ} scratch_size 0) (omega arith)

  pub lm : second_size ≤ length ms
  lm = rw (length-replicate {A = ℕ} (second_size) 0) (omega arith)

  abbrev pub Ends : Memory → Type 0
  Ends m = End t b su xs ms lx (zeros_get scratch_size) lm (zeros_get (second_size)) m

  abbrev F : Forest
  F = forest t (length t) 0

  root_is : Is t 0
  root_is = su.fit.some_cell

  begun : Safe b Ends (2 * sum (λ x. 1) F + 1) (record { stack = 0 ∷ []; next = link b.links 0 0; memory = memory_of xs ms })
  begun = safe t b su xs ms lx (zeros_get scratch_size) lm (zeros_get (second_size))

  pub all-passed : Passes t b (postorder t) cleared × Ends (work t al (postorder t) cleared)
  unfolding level work cleared finishes
  all-passed =
      let (p, s) = passed t b su Ends (grown t su.fit.sound 0) 0 0 [] (memory_of xs ms) 1 root_is refl (tail_all t 0) (rw (su.links.first 0 root_is) at begun) in
      let m = work t al (post F) (memory_of xs ms) in
      let e : root_closed m (deep b 0) (wide b 0) ≡ root_closed m (box_depth t 0) (box_width t 0) = rw (su.deep_of 0 root_is, su.wide_of 0 root_is) in
      let s₁ : Safe b Ends 0 (record { stack = []; next = 0; memory = root_closed m (box_depth t 0) (box_width t 0) }) =
      subst (Safe b Ends 0) (step_end b 0 m ∙ ap (λ (z : Memory). record { stack = []; next = 0; memory = z }) e) s.1 in
      rw (post-all t) (passes_append t b (post F) (0 ∷ []) (memory_of xs ms) p (s.0.shut refl, tt), subst Ends (sym (work-append t al (post F) (0 ∷ []) (memory_of xs ms))) s₁.1)

  -- each cell is ready when its turn comes
  pub ready : (k : ℕ) → k < length t → Ready t b (get_or (postorder t) k 0) (worked t al k)
  unfolding worked
  ready k l = passes_at t b (postorder t) cleared all-passed.0 k (omega (arith, order_length t su.fit.sound root_is))

  pub ended : Ends (worked t al (length t))
  unfolding worked
  ended =
      let e : take (length t) (postorder t) ≡ postorder t = subst (λ (n : ℕ). take n (postorder t) ≡ postorder t) (order_length t su.fit.sound root_is) (take-length (postorder t)) in
      rw e all-passed.1

  pub one_more : (k : ℕ) → k < length t → worked t al (suc k) ≡ finishes t al (get_or (postorder t) k 0) (worked t al k)
  unfolding worked work
  one_more k l =
      rw (take-suc (postorder t) k 0 (omega (arith, order_length t su.fit.sound root_is)))
      (work-append t al (take k (postorder t)) (get_or (postorder t) k 0 ∷ []) cleared)
