-- The links of a chain are those from cell to cell. Assumes nothing.
use Rattle.std.specs.Prelude.{◌≡◌, length}
use Rattle.std.proofs.Math.Path.{refl, sym}
use Rattle.std.proofs.Common.{ap, ◌∙◌, le-leb}
use mathlib.Core.List.{List, [], ◌∷◌, ◌++◌}
use Prim.Native.Nat.{ℕ, zero, suc, ◌+◌, ◌≤◌}
use native.Mathlib.Omega.{arith}
use Rattle.std.proofs.Math.ListN.{get_or}
use Rattle.std.proofs.lemmas.Bool.{lt-leb}
use Rattle.whole.proofs.Laws.Says.{is_true, is_false}
use Rattle.plan.specs.Lists.{from}
use Rattle.plan.proofs.Laws.Lists.{says_some, from-read, some_read}
use Rattle.plan.specs.Plan.{Table}
use Rattle.rules.specs.Placement.{Placement}
use Rattle.why_spec.specs.Measures.{across}
use Rattle.why_spec.specs.Links.{Link, Reason}
use Rattle.why_spec.specs.Search.{because, no_reason, link, closes, before, origin, trail, reason, why}
use Rattle.why_search.specs.Stops.{stop, steps}
use Rattle.why_search.specs.Explains.{told}
use Rattle.why_search.specs.Found.{Open, Closed}

append-nil : (l : List Link) → l ++ [] ≡ l
append-nil [] = refl
append-nil (x ∷ l) = ap (λ (r : List Link). x ∷ r) (append-nil l)

abbrev made : ℕ → List Link → ℕ → Reason
made a l b = record { first = a; links = l; last = b }

same-reason : {a a' : ℕ} {l l' : List Link} {b b' : ℕ} → a ≡ a' → l ≡ l' → b ≡ b' → made a l b ≡ made a' l' b'
same-reason x y z = rw (x, y, z)

module _ (t : Table) (al : ℕ) (p : Placement) where
  pub stop-here : (k b j : ℕ) → k ≤ j → stop t al p k b j ≡ b
  unfolding stop
  stop-here zero b j l = refl
  stop-here (suc k) b j l = rw (le-leb (suc k) j l)

  pub stop-back : (k b j : ℕ) → j ≤ k → stop t al p (suc k) b j ≡ stop t al p k (before t al (across t) p k b) j
  unfolding stop
  stop-back k b j l = rw (lt-leb (suc k) j (omega arith))

  steps-same : (f g : ℕ → ℕ) (i d : ℕ) → ((j : ℕ) → i ≤ j → j ≤ i + d → f j ≡ g j) → steps t al p f i d ≡ steps t al p g i d
  unfolding steps
  steps-same f g i zero h = refl
  steps-same f g i (suc d) h = cc (h i (omega arith) (omega arith), h (suc i) (omega arith) (omega arith), steps-same f g (suc i) d (λ j l u. h j (omega arith) (omega arith)))

  -- one link more at the end
  steps-more : (f : ℕ → ℕ) (i d : ℕ) (ls : List Link) → steps t al p f i (suc d) ++ ls ≡ steps t al p f i d ++ (link t al p (f (i + d)) (f (suc (i + d))) ∷ ls)
  unfolding steps
  steps-more f i zero ls = let e : i + 0 ≡ i = omega arith in rw e
  steps-more f i (suc d) ls = let e : i + suc d ≡ suc i + d = omega arith in rw e (ap (λ (r : List Link). link t al p (f i) (f (suc i)) ∷ r) (steps-more f (suc i) d ls))

  trail_more : (k b : ℕ) (ls : List Link) → trail t al (across t) p (suc k) b ls ≡ trail t al (across t) p k (before t al (across t) p k b) (link t al p (before t al (across t) p k b) b ∷ ls)
  unfolding trail
  trail_more k b ls = refl

  trail-steps : (k b : ℕ) (ls : List Link) → trail t al (across t) p k b ls ≡ steps t al p (stop t al p k b) 0 k ++ ls
  trail-steps zero b ls = unfold trail steps in refl
  trail-steps (suc k) b ls =
      let a = before t al (across t) p k b in
      let z : 0 + k ≡ k = omega arith in
      let here : stop t al p (suc k) b (suc k) ≡ b = stop-here (suc k) b (suc k) (omega arith) in
      let there : stop t al p (suc k) b k ≡ a = stop-back k b k (omega arith) ∙ stop-here k a k (omega arith) in
      let old : steps t al p (stop t al p (suc k) b) 0 k ≡ steps t al p (stop t al p k a) 0 k = steps-same _ _ 0 k (λ j l u. stop-back k b j (omega arith)) in
      trail_more k b ls ∙ trail-steps k a (link t al p a b ∷ ls) ∙ sym (steps-more (stop t al p (suc k) b) 0 k ls ∙ rw (z, here, there, old))

  origin-stop : (k b : ℕ) → origin t al (across t) p k b ≡ stop t al p k b 0
  unfolding origin
  origin-stop zero b = sym (stop-here 0 b 0 (omega arith))
  origin-stop (suc k) b = origin-stop k (before t al (across t) p k b) ∙ sym (stop-back k b 0 (omega arith))

  -- where the search closed, the reason is the one with these cells
  pub reason-told : (k e : ℕ) (cells : List ℕ) → Closed t al p k e → ((j : ℕ) → j ≤ k → get_or cells j 0 ≡ stop t al p k e j) → reason t al (across t) p ≡ told t al p k cells
  unfolding reason
  reason-told k e cells c h =
      let links : trail t al (across t) p k e [] ≡ steps t al p (λ j. get_or cells j 0) 0 k = trail-steps k e [] ∙ append-nil _ ∙ steps-same _ _ 0 k (λ j l u. sym (h j (omega arith))) in
      let start : origin t al (across t) p k e ≡ get_or cells 0 0 = origin-stop k e ∙ sym (h 0 (omega arith)) in
      let end : e ≡ get_or cells k 0 = sym (h k (omega arith) ∙ stop-here k e k (omega arith)) in
      rw (c.links, c.last) (same-reason start links end)

  pub why-told : (k e : ℕ) (cells : List ℕ) → Closed t al p k e → ((j : ℕ) → j ≤ k → get_or cells j 0 ≡ stop t al p k e j) → why t al (across t) p ≡ because (told t al p k cells)
  unfolding why
  why-told k e cells c h = rw (is_true (says_some (closes t al (across t) p) (from 0 (length t))) (some_read _ (from 0 (length t)) c.hit), reason-told k e cells c h)

  pub why_not : Open t al p (length t) → why t al (across t) p ≡ no_reason
  unfolding why
  why_not o = rw (is_false (says_some (closes t al (across t) p) (from 0 (length t))) (λ s. o s.at (omega (arith, (from-read 0 (length t) s.at s.there).1)) s.passes))
