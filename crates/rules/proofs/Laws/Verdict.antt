-- Each test says what its rule does, so the verdict is exact. Assumes nothing.
use Rattle.std.specs.Prelude.{◌≡◌, refl, ◌⊎◌, ◌↔◌, ℤ, ◌+ℤ◌, ◌≤ℤ◌, ◌<ℤ◌}
use Rattle.std.proofs.Common.{◌∙◌, ap, arith}
use Rattle.std.proofs.Math.Logic.{inl, inr}
use Rattle.std.proofs.Math.Bool.{true}
use Prim.Native.Nat.{ℕ, zero, suc, ◌≤◌, ◌<◌}
use Rattle.std.proofs.Math.ListN.{length}
use Rattle.std.proofs.Math.IntN.{pos}
use Rattle.whole.proofs.Laws.Whole.{whole, lt_or_le}
use Rattle.whole.specs.Says.{Says}
use Rattle.whole.proofs.Laws.Says.{itself, that_is, both, either, whenever, says_le, says_eq, says_le_z, says_lt_z, says_eq_z}
use Rattle.plan.proofs.Laws.Lists.{says_some}
use Rattle.plan.specs.Plan.{Table, Is, parent, kind, children, child, appointed, path, within, next, earlier}
use Rattle.plan.proofs.Laws.Plan.{child-read, appointed-at}
use Rattle.plan.proofs.Laws.Siblings.{next-is}
use Rattle.rules.specs.Placement.{Placement, right, base, bottom, Box, Stem, width, rows}
use Rattle.rules.specs.Rules.{S1, Keeps}
use Rattle.rules.specs.Search.{Verdict, kept, broken}
use Rattle.rules.proofs.Laws.Search.{Lowest, lowest-kept, kept-lowest, lowest-broken}
use Rattle.rules.specs.Tests.{share, flush, after_one, before_one, kept1, meets, box4, stem4, test}
use Rattle.rules.specs.Verdict.{Rule1, Rule, verdict, Answer, fine, faulty, answer, Breaks, Exact}

-- a row of both
record Shared (s e s' e' : ℤ) : Type 0 where
  row : ℤ
  a : s ≤ℤ row
  b : row ≤ℤ e
  c : s' ≤ℤ row
  d : row ≤ℤ e'

says_share : (s e s' e' : ℤ) → Says (share s e s' e') (Shared s e s' e')
unfolding share
says_share s e s' e' =
    that_is (both (both (says_le_z s e) (says_le_z s' e')) (both (says_le_z s e') (says_le_z s' e)))
    (λ h. elim (lt_or_le s s') [
      | inl l ↦ record { row = s'; a = omega whole; b = omega whole; c = omega whole; d = omega whole }
      | inr l ↦ record { row = s; a = omega whole; b = omega whole; c = omega whole; d = omega whole }
    ])
    (λ h. ((omega whole, omega whole), (omega whole, omega whole)))

module _ (t : Table) (p : Placement) where
  says1 : (a : ℕ) → Says (kept1 t p a) (Rule1 t p a)
  unfolding kept1
  says1 zero = both (says_eq_z (p.x 0) (pos 0)) (says_eq_z (p.y 0) (pos 0))
  says1 (suc m) = says_eq_z _ _

  -- a row from s to e that b's box or stem path has
  record Meets (s e : ℤ) (b : ℕ) : Type 0 where
    row : ℤ
    low : s ≤ℤ row
    high : row ≤ℤ e
    on : Box t p b row ⊎ Stem t p b row

  says_meets : (s e : ℤ) (b : ℕ) → Says (meets t p s e b) (Meets s e b)
  unfolding meets
  says_meets s e b =
      that_is (either (says_share s e (p.y b) (base t p b)) (both (says_le 1 (length (children t b))) (says_share s e (base t p b +ℤ pos 1) (bottom t p b))))
      there back
    where
      there : Shared s e (p.y b) (base t p b) ⊎ ((1 ≤ length (children t b)) × Shared s e (base t p b +ℤ pos 1) (bottom t p b)) → Meets s e b
      there (inl g) = record { row = g.row; low = g.a; high = g.b; on = inl (record { top = g.c; low = g.d }) }
      there (inr g) = record { row = g.1.row; low = g.1.a; high = g.1.b; on = inr (record { bears = g.0; top = g.1.c; low = g.1.d }) }

      turn : (ρ : ℤ) → s ≤ℤ ρ → ρ ≤ℤ e → Box t p b ρ ⊎ Stem t p b ρ → Shared s e (p.y b) (base t p b) ⊎ ((1 ≤ length (children t b)) × Shared s e (base t p b +ℤ pos 1) (bottom t p b))
      turn ρ h k (inl q) = inl (record { row = ρ; a = h; b = k; c = q.top; d = q.low })
      turn ρ h k (inr q) = inr (q.bears, record { row = ρ; a = h; b = k; c = q.top; d = q.low })

      back : Meets s e b → Shared s e (p.y b) (base t p b) ⊎ ((1 ≤ length (children t b)) × Shared s e (base t p b +ℤ pos 1) (bottom t p b))
      back m = turn m.row m.low m.high m.on

  says_box : (a b : ℕ) → Says (box4 t p a b) ((ρ : ℤ) → Box t p b ρ ⊎ Stem t p b ρ → Box t p a ρ → right t p a <ℤ p.x b)
  unfolding box4
  says_box a b =
      that_is (whenever (says_meets (p.y a) (base t p a) b) (says_lt_z (right t p a) (p.x b)))
      (λ h ρ k q. h (record { row = ρ; low = q.top; high = q.low; on = k }))
      (λ h m. h m.row m.on (record { top = m.low; low = m.high }))

  says_stem : (a b : ℕ) → Says (stem4 t p a b) ((ρ : ℤ) → Box t p b ρ ⊎ Stem t p b ρ → Stem t p a ρ → p.x a <ℤ p.x b)
  unfolding stem4
  says_stem a b =
      that_is (whenever (both (says_le 1 (length (children t a))) (says_meets (base t p a +ℤ pos 1) (bottom t p a) b)) (says_lt_z (p.x a) (p.x b)))
      (λ h ρ k q. h (q.bears, record { row = ρ; low = q.top; high = q.low; on = k }))
      (λ h m. h m.1.row m.1.on (record { bears = m.0; top = m.1.low; low = m.1.high }))

  says : (al r a b : ℕ) → Says (test t p al r a b) (Rule t p al r a b)
  unfolding test flush after_one before_one within
  says al zero a b = itself true
  says al (suc zero) a b = whenever (says_eq a b) (says1 a)
  says al (suc (suc zero)) a b =
      that_is (whenever (both (says_le 1 (length (children t a))) (says_eq (child t a (appointed (kind t a) (length (children t a)))) b)) (says_eq_z (p.x a) (p.x b)))
      (λ h k e. h (k, e)) (λ h k. h k.0 k.1)
  says al (suc (suc (suc zero))) a b =
      that_is
      (both (whenever (says_some (λ u. next t u b) (path t a)) (says_lt_z (right t p a) (p.x b)))
      (whenever (says_some (λ v. next t a v) (path t b)) (says_lt_z (p.x a) (p.x b))))
      (λ h. (λ u k w. h.0 (record { at = u; there = w; passes = k }), λ v k w. h.1 (record { at = v; there = w; passes = k })))
      (λ h. (λ k. h.0 k.at k.passes k.there, λ k. h.1 k.at k.passes k.there))
  says al (suc (suc (suc (suc zero)))) a b =
      that_is (whenever (itself (earlier t a b)) (both (says_box a b) (says_stem a b)))
      (λ h k ρ q. ((h k).0 ρ q, (h k).1 ρ q)) (λ h k. (λ ρ q. (h k ρ q).0, λ ρ q. (h k ρ q).1))
  says al (suc (suc (suc (suc (suc zero))))) a b = whenever (itself (earlier t a b)) (says_le_z _ _)
  says al (suc (suc (suc (suc (suc (suc r)))))) a b = itself true

-- ---- S1 to S5 are the rules at every pair
module _ (t : Table) (p : Placement) (al : ℕ) where
  abbrev pub Everywhere : Type 0
  Everywhere = (r a b : ℕ) → 1 ≤ r → r ≤ 5 → Is t a → Is t b → Rule t p al r a b

  keeps_1 : S1 t p → (a : ℕ) → Is t a → Rule1 t p a
  keeps_1 s zero i = (s.root_x, s.root_y)
  keeps_1 s (suc m) i = s.drop (suc m) i (omega arith)

  pub keeps_everywhere : Keeps t p al → Everywhere
  keeps_everywhere k zero a b _ _ i j = tt
  keeps_everywhere k (suc zero) a b _ _ i j = λ e. keeps_1 k.s1 a i
  keeps_everywhere k (suc (suc zero)) a b _ _ i j = λ f e. k.s2.flush a i f ∙ ap p.x e
  keeps_everywhere k (suc (suc (suc zero))) a b _ _ i j = (λ u n w. k.s3.ends u b n a i w, λ v n w. k.s3.starts a v n b j w)
  keeps_everywhere k (suc (suc (suc (suc zero)))) a b _ _ i j = λ e ρ q. (λ x. k.s4.box a b i j e ρ x q, λ x. k.s4.stem a b i j e ρ x q)
  keeps_everywhere k (suc (suc (suc (suc (suc zero))))) a b _ _ i j = λ e. k.s5.overlap a b i j e
  keeps_everywhere k (suc (suc (suc (suc (suc (suc r)))))) a b _ _ i j = tt

  pub everywhere_keeps : 1 ≤ length t → Everywhere → Keeps t p al
  everywhere_keeps n k = record {
    s1 = record {
      root_x = (k 1 0 0 (omega arith) (omega arith) (omega arith) (omega arith) refl).0;
      root_y = (k 1 0 0 (omega arith) (omega arith) (omega arith) (omega arith) refl).1;
      drop = down;
    };
    s2 = record { flush = λ c i h. k 2 c _ (omega arith) (omega arith) i (child-read t c _ _ (appointed-at t c h)).is h refl };
    s3 = record {
      ends = λ u v n a i w. (k 3 a v (omega arith) (omega arith) i (next-is t u v n).1).0 u n w;
      starts = λ u v n b j w. (k 3 u b (omega arith) (omega arith) (next-is t u v n).0 j).1 v n w;
    };
    s4 = record {
      box = λ a b i j e ρ x q. (k 4 a b (omega arith) (omega arith) i j e ρ q).0 x;
      stem = λ a b i j e ρ x q. (k 4 a b (omega arith) (omega arith) i j e ρ q).1 x;
    };
    s5 = record { overlap = λ a b i j e. k 5 a b (omega arith) (omega arith) i j e };
  }
    where
      down : (s : ℕ) → Is t s → 1 ≤ s → p.y s ≡ base t p (parent t s) +ℤ pos 1
      down zero i h = absurd (omega arith)
      down (suc m) i h = k 1 (suc m) (suc m) (omega arith) (omega arith) i i refl

  pub kept_keeps : 1 ≤ length t → verdict t p al ≡ kept → Keeps t p al
  unfolding verdict
  kept_keeps n e = everywhere_keeps n (λ r a b l h i j. (says t p al r a b).read (kept-lowest (test t p al) (length t) e r a b l h i j))

  pub keeps_kept : Keeps t p al → verdict t p al ≡ kept
  unfolding verdict
  keeps_kept k = lowest-kept (test t p al) (length t) (λ r a b l h i j. (says t p al r a b).show (keeps_everywhere k r a b l h i j))

  pub verdict-broken : (r a b : ℕ) → verdict t p al ≡ broken r a b → Breaks t p al r a b
  unfolding verdict
  verdict-broken r a b e =
      let w : Lowest (test t p al) (length t) r a b = lowest-broken (test t p al) (length t) r a b e in
      record {
        rule_low = w.rule_low;
        rule_high = w.rule_high;
        a_is = w.a_is;
        b_is = w.b_is;
        broken_here = λ k. w.fails ((says t p al r a b).show k);
        lower_rule = λ r' a' b' l h i j. (says t p al r' a' b').read (w.lower_rule r' a' b' l h i j);
        lower_a = λ a' b' h j. (says t p al r a' b').read (w.lower_a a' b' h j);
        lower_b = λ b' h. (says t p al r a b').read (w.lower_b b' h);
      }

  -- only one pair is lowest
  breaks_one : (r a b r' a' b' : ℕ) → Breaks t p al r a b → Breaks t p al r' a' b' → (r ≡ r') × (a ≡ a') × (b ≡ b')
  breaks_one r a b r' a' b' h k = same_rule (not_less r r' a b a' b' h k) (not_less r' r a' b' a b k h)
    where
      not_less : (r r' a b a' b' : ℕ) → Breaks t p al r a b → Breaks t p al r' a' b' → ¬ (r < r')
      not_less r r' a b a' b' h k l = h.broken_here (k.lower_rule r a b h.rule_low l h.a_is h.b_is)

      not_left : (r a b a' b' : ℕ) → Breaks t p al r a b → Breaks t p al r a' b' → ¬ (a < a')
      not_left r a b a' b' h k l = h.broken_here (k.lower_a a b l h.b_is)

      not_right : (r a b b' : ℕ) → Breaks t p al r a b → Breaks t p al r a b' → ¬ (b < b')
      not_right r a b b' h k l = h.broken_here (k.lower_b b l)

      same-b : a ≡ a' → r ≡ r' → Breaks t p al r a b → Breaks t p al r a b' → (r ≡ r') × (a ≡ a') × (b ≡ b')
      same-b e f h k = let u = not_right r a b b' h k in let v = not_right r a b' b k h in (f, e, omega arith)

      same-a : r ≡ r' → Breaks t p al r a b → Breaks t p al r a' b' → (r ≡ r') × (a ≡ a') × (b ≡ b')
      same-a f h k =
          let u = not_left r a b a' b' h k in
          let v = not_left r a' b' a b k h in
          let e : a ≡ a' = omega arith in
          same-b e f h (rw (← e) at k)

      same_rule : ¬ (r < r') → ¬ (r' < r) → (r ≡ r') × (a ≡ a') × (b ≡ b')
      same_rule u v = let e : r ≡ r' = omega arith in same-a e h (rw (← e) at k)

  -- so a pair that is lowest is the one named
  pub breaks_verdict : 1 ≤ length t → (r a b : ℕ) → Breaks t p al r a b → verdict t p al ≡ broken r a b
  breaks_verdict n r a b h = go (verdict t p al) refl
    where
      go : (v : Verdict) → verdict t p al ≡ v → verdict t p al ≡ broken r a b
      go kept e = absurd (h.broken_here (keeps_everywhere (kept_keeps n e) r a b h.rule_low h.rule_high h.a_is h.b_is))
      go (broken r' a' b') e = let (u, v, w) = breaks_one r' a' b' r a b (verdict-broken r' a' b' e) h in cc

  pub verdict_exact : 1 ≤ length t → (v : Verdict) → (verdict t p al ≡ v) ↔ Exact t p al v
  verdict_exact n kept = (kept_keeps n, keeps_kept)
  verdict_exact n (broken r a b) = (verdict-broken r a b, breaks_verdict n r a b)

-- ---- the answer
pub record Fine (t : Table) (p : Placement) (al : ℕ) (w r : ℤ) : Type 0 where
  pub verdict_kept : verdict t p al ≡ kept
  pub wide : w ≡ width t p
  pub deep : r ≡ rows t p

pub answer-fine : (t : Table) (p : Placement) (al : ℕ) (w r : ℤ) → answer t p al ≡ fine w r → Fine t p al w r
unfolding answer
answer-fine t p al w r e = go (verdict t p al) refl e
  where
    go : (v : Verdict) → verdict t p al ≡ v → elim v as (λ _. Answer) [ kept ↦ fine (width t p) (rows t p) | broken r a b ↦ faulty r a b ] ≡ fine w r → Fine t p al w r
    go kept h e = record { verdict_kept = h; wide = cc; deep = cc }
    go (broken s a b) h e = absurd (let z : ◌≡◌ {A = ℕ} 0 1 = cc in omega arith)

pub fine-answer : (t : Table) (p : Placement) (al : ℕ) → verdict t p al ≡ kept → answer t p al ≡ fine (width t p) (rows t p)
unfolding answer
fine-answer t p al e = rw (e, answer)

pub faulty-answer : (t : Table) (p : Placement) (al r a b : ℕ) → verdict t p al ≡ broken r a b → answer t p al ≡ faulty r a b
unfolding answer
faulty-answer t p al r a b e = rw (e, answer)
