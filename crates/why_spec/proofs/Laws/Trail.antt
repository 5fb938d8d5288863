-- The way back from the last cell is a chain without room, and it adds up. Assumes nothing.
use mathlib.Core.List.{List, [], ◌∷◌}
use Rattle.std.specs.Prelude.{◌≡◌, length, T, pos, ◌+ℤ◌}
use Rattle.std.proofs.Math.Path.{refl, ap}
use Rattle.std.proofs.Math.Logic.{inl, inr}
use Prim.Native.Nat.{ℕ, zero, suc, ◌+◌, ◌≤◌, ◌<◌}
use native.Mathlib.Omega.{arith}
use Rattle.std.proofs.Math.Decide.{dec_lt}
use Rattle.whole.proofs.Laws.Whole.{whole, sum, diff}
use Rattle.plan.specs.Lists.{from, mem}
use Rattle.plan.proofs.Laws.Lists.{Some, some_read, some_show, from-read}
use Rattle.plan.specs.Plan.{Table, Is}
use Rattle.rules.specs.Placement.{Placement, most, least}
use Rattle.why_spec.specs.Measures.{Measure, far, extent}
use Rattle.why_spec.specs.Links.{Link, Justified, Chain, adds_up, Certifies, Exact}
use Rattle.why_spec.specs.Layers.{New}
use Rattle.why_spec.specs.Search.{tight, tied, link, rightmost, reached, closes, fewest, final, before, origin, trail, reason}
use Rattle.why_spec.proofs.Laws.Moved.{says_leftmost, says_rightmost}
use Rattle.why_spec.proofs.Laws.Reached.{first_found, first-least, reached-is, reached-leads, reached-next, first-reached}

module _ (t : Table) (al : ℕ) (μ : Measure) (p : Placement) where
  pub new_in : (k b : ℕ) → New t al μ p k b → T (mem b (reached t al μ p k))
  new_in zero b h = h
  new_in (suc k) b h = h.0

  pub older : (k a b : ℕ) → T (mem a (reached t al μ p k)) → Is t b → T (tied t al p a b) → ¬ T (mem b (reached t al μ p k)) → New t al μ p k a
  older zero a b m i s n = m
  older (suc k) a b m i s n = (m, λ h. n (reached-next t al μ p k a b h i s))

  pub back_new : (k b : ℕ) → New t al μ p (suc k) b → New t al μ p k (before t al μ p k b) × T (tied t al p (before t al μ p k b) b)
  unfolding before
  back_new k b (m, n) =
      elim (reached-leads t al μ p k b m) [
        | inl h ↦ absurd (n h)
        | inr s ↦ let (u, v) = first_found (λ a. tied t al p a b) (reached t al μ p k) s in (older k _ b u (reached-is t al μ p (suc k) b m) v n, v)
      ]

  justified : (a b : ℕ) → Is t a → Is t b → T (tied t al p a b) → Justified t al (link t al p a b)
  unfolding link tied tight
  justified a b i j s = record { from_is = i; to_is = j; asked = (first_found (tight t al p a b) (from 2 4) (some_read _ (from 2 4) s)).1 }

  trail-chain : (k b : ℕ) (ls : List Link) (e : ℕ) → New t al μ p k b → Chain t al b ls e → Chain t al (origin t al μ p k b) (trail t al μ p k b ls) e
  unfolding origin trail
  trail-chain zero b ls e n h = h
  trail-chain (suc k) b ls e n h =
      let a = before t al μ p k b in
      let (m, s) = back_new k b n in
      trail-chain k a (link t al p a b ∷ ls) e m (unfold link in (refl, justified a b (reached-is t al μ p k a (new_in k a m)) (reached-is t al μ p (suc k) b n.0) s, h))

  trail_exact : (k b : ℕ) (ls : List Link) → Exact p ls → Exact p (trail t al μ p k b ls)
  unfolding trail
  trail_exact zero b ls h = h
  trail_exact (suc k) b ls h = let a = before t al μ p k b in trail_exact k a (link t al p a b ∷ ls) (unfold link in (refl, h))

  pub trail-length : (k b : ℕ) (ls : List Link) → length (trail t al μ p k b ls) ≡ k + length ls
  unfolding trail
  trail-length zero b ls = omega arith
  trail-length (suc k) b ls = let a = before t al μ p k b in omega (arith, trail-length k a (link t al p a b ∷ ls))

  origin_new : (k b : ℕ) → New t al μ p k b → T (mem (origin t al μ p k b) (reached t al μ p 0))
  unfolding origin
  origin_new zero b n = n
  origin_new (suc k) b n = origin_new k (before t al μ p k b) (back_new k b n).0

  -- exact links add up to the distance of their ends
  pub exact_sum : (c : ℕ) (ls : List Link) (e : ℕ) → Chain t al c ls e → Exact p ls → p.x c +ℤ adds_up ls ≡ p.x e
  unfolding adds_up
  exact_sum c [] e h x = omega (whole, ap p.x h, sum (p.x c) (pos 0))
  exact_sum c (l ∷ ls) e (f, j, h) (d, x) =
      omega (
        whole,
        ap p.x f,
        d,
        exact_sum l.to ls e h x,
        diff (p.x l.to) (p.x l.from),
        sum (p.x l.to) (adds_up ls),
        sum l.apart (adds_up ls),
        sum (p.x c) (l.apart +ℤ adds_up ls),
      )

  -- ---- where some chain closes
  module _ (hit : Some (closes t al μ p) (from 0 (length t))) where
    pub fewest-found : (fewest t al μ p < length t) × T (closes t al μ p (fewest t al μ p))
    unfolding fewest
    fewest-found =
        let (m, h) = first_found (closes t al μ p) (from 0 (length t)) hit in
        (omega (arith, (from-read 0 (length t) _ m).1), h)

    pub fewest-least : (k b : ℕ) → T (mem b (reached t al μ p k)) → T (rightmost μ p b) → fewest t al μ p ≤ k
    fewest-least k b m r =
        elim (dec_lt k (length t)) [
          | yes h ↦ (unfold fewest closes in first-least (closes t al μ p) 0 (length t) k (omega arith) (omega arith) (some_show _ _ b m r))
          | no h ↦ omega (arith, fewest-found.0)
        ]

    pub final-found : T (mem (final t al μ p) (reached t al μ p (fewest t al μ p))) × T (rightmost μ p (final t al μ p))
    unfolding final closes
    final-found = first_found (rightmost μ p) (reached t al μ p (fewest t al μ p)) (some_read _ _ fewest-found.1)

    pub final_new : New t al μ p (fewest t al μ p) (final t al μ p)
    final_new = go (fewest t al μ p) refl
      where
        go : (k : ℕ) → fewest t al μ p ≡ k → New t al μ p k (final t al μ p)
        go zero e = rw e at final-found.0
        go (suc k) e = (rw e at final-found.0, λ m. let h = fewest-least k (final t al μ p) m final-found.1 in omega arith)

    pub reason_certifies : Certifies t al μ (extent μ p) (reason t al μ p)
    unfolding reason extent far
    reason_certifies =
        let c = origin t al μ p (fewest t al μ p) (final t al μ p) in
        let e = final t al μ p in
        let ls = trail t al μ p (fewest t al μ p) e [] in
        let ch : Chain t al c ls e = trail-chain (fewest t al μ p) e [] e final_new refl in
        let h = (says_leftmost μ p c).read (first-reached t al μ p c (origin_new (fewest t al μ p) e final_new)) in
        let k = (says_rightmost μ p e).read final-found.1 in
        let L = least p.x (p.x μ.start) μ.starts in
        let M = most (far μ p) (far μ p μ.end) μ.ends in
        record {
          begins = h.0;
          chain = ch;
          finishes = k.0;
          sum = omega (
            whole,
            exact_sum c ls e ch (trail_exact (fewest t al μ p) e [] tt),
            h.1,
            k.1,
            diff M L,
            sum (p.x c) (adds_up ls),
            sum (p.x e) (pos (μ.past e)),
            sum (adds_up ls) (pos (μ.past e)),
          );
        }

    pub reason_short : length (reason t al μ p).links < length t
    unfolding reason
    reason_short = omega (arith, trail-length (fewest t al μ p) (final t al μ p) [], fewest-found.0)
