-- What certifies a measure bounds every placement that keeps the rules, and is seen on one that has it; a placement that measures as little as any has a reason.
-- Assumes nothing.
use mathlib.Core.List.{List, [], ◌∷◌}
use Rattle.std.specs.Prelude.{◌≡◌, refl, Bool, true, false, T, ℤ, pos, ◌+ℤ◌, ◌≤ℤ◌}
use Rattle.std.proofs.Common.{ap}
use Prim.Native.Nat.{ℕ, suc, pred, ◌+◌, ◌≤◌, ◌<◌}
use native.Mathlib.Omega.{arith}
use Rattle.std.proofs.Math.ListN.{length}
use Rattle.whole.proofs.Laws.Whole.{whole, sum, diff}
use Rattle.plan.specs.Lists.{from, some, mem}
use Rattle.plan.proofs.Laws.Lists.{mem-at, at_less, Some, some_read, some_show, from_show}
use Rattle.plan.specs.Plan.{Table, Is, Sound}
use Rattle.rules.specs.Placement.{Placement, most, least}
use Rattle.rules.specs.Rules.{Keeps}
use Rattle.rules.proofs.Laws.Extremes.{most-all, least-all, least-one}
use Rattle.why_spec.specs.Measures.{Measure, far, extent}
use Rattle.why_spec.specs.Links.{Link, Justified, Chain, adds_up, Reason, Certifies, Exact, Taut}
use Rattle.why_spec.specs.Search.{tight, tied, leftmost, rightmost, reached, closes, fewest, final, reason}
use Rattle.why_spec.proofs.Laws.Links.{link_true, chain_bounds}
use Rattle.why_spec.proofs.Laws.Measures.{Measurable}
use Rattle.why_spec.proofs.Laws.Moved.{no_room, says_leftmost, says_rightmost, reaches}
use Rattle.why_spec.proofs.Laws.Reached.{reached-next, reached-first, reached-later, all_in}
use Rattle.why_spec.proofs.Laws.Trail.{trail-length, fewest-least}

module _ (t : Table) (al : ℕ) (μ : Measure) (p : Placement) where
  -- ---- a chain without room from a cell that k links reach
  module _ (sound : Sound t) (keeps : Keeps t p al) where
    -- a sum that is just the distance of its ends leaves no link room
    no_slack : (c : ℕ) (l : Link) (ls : List Link) (e : ℕ) → l.from ≡ c → Justified t al l → Chain t al l.to ls e → p.x c +ℤ (l.apart +ℤ adds_up ls) ≡ p.x e
        → (p.x l.from +ℤ l.apart ≡ p.x l.to) × (p.x l.to +ℤ adds_up ls ≡ p.x e)
    no_slack c l ls e f j h q =
        let u = link_true t sound al p keeps l j in
        let v = chain_bounds t sound al p keeps l.to ls e h in
        let w = sum (p.x l.from) l.apart in
        let x = sum (p.x l.to) (adds_up ls) in
        let y = sum l.apart (adds_up ls) in
        let z = sum (p.x c) (l.apart +ℤ adds_up ls) in
        let fx = ap p.x f in
        (omega whole, omega whole)

    chain-reached : (k c : ℕ) (ls : List Link) (e : ℕ) → T (mem c (reached t al μ p k)) → Chain t al c ls e → p.x c +ℤ adds_up ls ≡ p.x e
        → T (mem e (reached t al μ p (k + length ls)))
    unfolding adds_up
    chain-reached k c [] e m h q = let z : k + 0 ≡ k = omega arith in rw (z, ← h) m
    chain-reached k c (l ∷ ls) e m (f, j, h) q =
        let (tight, rest) = no_slack c l ls e f j h q in
        let n : suc k + length ls ≡ k + suc (length ls) = omega arith in
        rw n at (chain-reached (suc k) l.to ls e (reached-next t al μ p k l.from l.to (rw f m) j.to_is (no_room t al p l j tight)) h rest)

    -- a chain whose sum is the distance of its ends has no room anywhere
    chain_exact : (c : ℕ) (ls : List Link) (e : ℕ) → Chain t al c ls e → p.x c +ℤ adds_up ls ≡ p.x e → Exact p ls
    unfolding adds_up
    chain_exact c [] e h q = tt
    chain_exact c (l ∷ ls) e (f, j, h) q =
        let (tight, rest) = no_slack c l ls e f j h q in
        (omega (whole, sum (p.x l.from) l.apart, diff (p.x l.to) (p.x l.from)), chain_exact l.to ls e h rest)

    -- what certifies a measure bounds every placement's
    pub certified_bounds : (w : ℤ) (r : Reason) → Certifies t al μ w r → w ≤ℤ extent μ p
    unfolding extent far
    certified_bounds w r c =
        let L = least p.x (p.x μ.start) μ.starts in
        let M = most (far μ p) (far μ p μ.end) μ.ends in
        omega (
          whole,
          c.sum,
          chain_bounds t sound al p keeps r.first r.links r.last c.chain,
          least-all p.x (p.x μ.start) μ.starts r.first c.begins,
          most-all (far μ p) (far μ p μ.end) μ.ends r.last c.finishes,
          diff M L,
          sum (p.x r.first) (adds_up r.links),
          sum (p.x r.last) (pos (μ.past r.last)),
          sum (adds_up r.links) (pos (μ.past r.last)),
        )

    -- and where it is this placement's own, it is seen there
    record Seen (r : Reason) : Type 0 where
      begins : p.x r.first ≡ least p.x (p.x μ.start) μ.starts
      between : p.x r.first +ℤ adds_up r.links ≡ p.x r.last
      ends : far μ p r.last ≡ most (far μ p) (far μ p μ.end) μ.ends

    certified_seen : (r : Reason) → Certifies t al μ (extent μ p) r → Seen r
    unfolding extent far
    certified_seen r c =
        let L = least p.x (p.x μ.start) μ.starts in
        let M = most (far μ p) (far μ p μ.end) μ.ends in
        let s = c.sum in
        let b = chain_bounds t sound al p keeps r.first r.links r.last c.chain in
        let l = least-all p.x (p.x μ.start) μ.starts r.first c.begins in
        let m = most-all (far μ p) (far μ p μ.end) μ.ends r.last c.finishes in
        let d = diff M L in
        let u = sum (p.x r.first) (adds_up r.links) in
        let v = sum (p.x r.last) (pos (μ.past r.last)) in
        let w = sum (adds_up r.links) (pos (μ.past r.last)) in
        record { begins = omega whole; between = omega whole; ends = omega whole }

    pub certified_taut : (r : Reason) → Certifies t al μ (extent μ p) r → Taut μ p r
    certified_taut r c =
        let s = certified_seen r c in
        record {
          least_x = λ a i. rw s.begins (least-all p.x (p.x μ.start) μ.starts a i);
          exact = chain_exact r.first r.links r.last c.chain s.between;
          farthest = λ b i. rw s.ends (most-all (far μ p) (far μ p μ.end) μ.ends b i);
        }

    module _ (on : Measurable t μ) where
      pub reason-fewest : Some (closes t al μ p) (from 0 (length t)) → (r : Reason) → Certifies t al μ (extent μ p) r → length (reason t al μ p).links ≤ length r.links
      unfolding reason
      reason-fewest hit r c =
          let s = certified_seen r c in
          let m = reached-first t al μ p r.first (on.starts_is r.first c.begins) ((says_leftmost μ p r.first).show (c.begins, s.begins)) in
          let z : 0 + length r.links ≡ length r.links = omega arith in
          let n = rw z at (chain-reached 0 r.first r.links r.last m c.chain s.between) in
          omega (
            arith,
            trail-length t al μ p (fewest t al μ p) (final t al μ p) [],
            fewest-least t al μ p hit (length r.links) r.last n ((says_rightmost μ p r.last).show (c.finishes, s.ends)),
          )

      module _ (some_cell : 1 ≤ length t) (little : (q : Placement) → Keeps t q al → extent μ p ≤ℤ extent μ q) where
        begins : (a : ℕ) × Is t a × T (leftmost μ p a)
        begins =
            let (a, i, e) = least-one p.x (p.x μ.start) μ.starts (λ z. (a : ℕ) × T (mem a μ.starts) × (p.x a ≡ z)) (μ.start, on.start_in, refl) (λ a m. (a, m, refl)) in
            (a, on.starts_is a i, (says_leftmost μ p a).show (i, e))

        some_first : 0 < length (reached t al μ p 0)
        some_first =
            let (a, i, h) = begins in
            let (j, m) = mem-at (reached t al μ p 0) a (reached-first t al μ p a i h) in
            omega (arith, at_less (reached t al μ p 0) j a m)

        -- THE existence: one of the cells that are reached is farthest to the right
        found : Some (rightmost μ p) (reached t al μ p (pred (length t)))
        found = go (some (rightmost μ p) (reached t al μ p (pred (length t)))) refl
          where
            closed : (a b : ℕ) → Is t a → Is t b → T (mem a (reached t al μ p (pred (length t)))) → T (tied t al p a b) → T (mem b (reached t al μ p (pred (length t))))
            closed a b i j m s = rw (all_in t al μ p some_cell some_first) (reached-next t al μ p (pred (length t)) a b m j s)

            go : (u : Bool) → some (rightmost μ p) (reached t al μ p (pred (length t))) ≡ u → Some (rightmost μ p) (reached t al μ p (pred (length t)))
            go true e = some_read _ _ (rw e tt)
            go false e =
                absurd (reaches t sound al p keeps (λ b. mem b (reached t al μ p (pred (length t)))) closed μ on little
                (λ a i h. reached-later t al μ p (pred (length t)) a (reached-first t al μ p a i h))
                (λ b i m r. rw e at (some_show (rightmost μ p) (reached t al μ p (pred (length t))) b m r)))

        pub hits : Some (closes t al μ p) (from 0 (length t))
        unfolding closes
        hits =
            record {
              at = pred (length t);
              there = from_show 0 (length t) (pred (length t)) (omega arith) (omega arith);
              passes = some_show _ _ found.at found.there found.passes;
            }
