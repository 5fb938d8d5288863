-- The cells that tight links reach, a link more each time: at most as many times as there are other cells. Assumes nothing.
use Rattle.std.specs.Prelude.{List, [], ◌∷◌, ◌≡◌, refl, Bool, true, false, cond, ◌⊎◌, length, T}
use Rattle.std.proofs.Math.Path.{ap}
use Rattle.std.proofs.Common.{inl, inr, arith}
use Prim.Native.Nat.{ℕ, zero, suc, pred, ◌+◌, ◌≤◌, ◌<◌}
use Rattle.std.proofs.Math.Decide.{dec_lt}
use Rattle.whole.specs.Says.{Says}
use Rattle.whole.proofs.Laws.Says.{itself, either}
use Rattle.plan.specs.Lists.{from, keep, mem}
use Rattle.plan.proofs.Laws.Lists.{mem-here, mem_there, mem_cases, mem-none, Some, says_some, keep-read, keep_show, keep_short}
use Rattle.plan.specs.Plan.{Table, Is, cells}
use Rattle.plan.proofs.Laws.Plan.{cells-read, cells_show}
use Rattle.rules.specs.Placement.{Placement}
use Rattle.why_spec.specs.Measures.{Measure}
use Rattle.why_spec.specs.Search.{first, tied, leftmost, leads, reached}

-- ---- the first that passes
pub first_found : (f : ℕ → Bool) (l : List ℕ) → Some f l → T (mem (first f l) l) × T (f (first f l))
unfolding first
first_found f [] s = absurd (mem-none s.at s.there)
first_found f (a ∷ l) s = go (f a) refl (mem_cases s.at a l s.there) (first_found f l)
  where
    go : (b : Bool) → f a ≡ b → (s.at ≡ a) ⊎ T (mem s.at l) → (Some f l → T (mem (first f l) l) × T (f (first f l)))
        → T (mem (cond b a (first f l)) (a ∷ l)) × T (f (cond b a (first f l)))
    go true e m g = (mem-here a a l refl, rw e tt)
    go false e (inl q) g = absurd (rw (q, e) at s.passes)
    go false e (inr k) g = let (u, v) = g (record { at = s.at; there = k; passes = s.passes }) in (mem_there _ a l u, v)

pub first-least : (f : ℕ → Bool) (k d j : ℕ) → k ≤ j → j < k + d → T (f j) → first f (from k d) ≤ j
unfolding first from
first-least f k zero j h g s = absurd (omega arith)
first-least f k (suc d) j h g s = go (f k) refl (dec_lt k j) (λ m. first-least f (suc k) d j m (omega arith) s)
  where
    go : (b : Bool) → f k ≡ b → Dec (k < j) → (k < j → first f (from (suc k) d) ≤ j) → cond b k (first f (from (suc k) d)) ≤ j
    go true e m r = h
    go false e (yes m) r = r m
    go false e (no m) r = let q : j ≡ k = omega arith in absurd (rw (q, e) at s)

-- a weaker test passes more, or the same
keep_grow : (f g : ℕ → Bool) (l : List ℕ) → ((a : ℕ) → T (mem a l) → T (f a) → T (g a)) → (keep f l ≡ keep g l) ⊎ (length (keep f l) < length (keep g l))
unfolding keep
keep_grow f g [] h = inl refl
keep_grow f g (b ∷ l) h = go (f b) (g b) refl refl (keep_grow f g l (λ a m. h a (mem_there a b l m)))
  where
    go : (u v : Bool) → f b ≡ u → g b ≡ v → (keep f l ≡ keep g l) ⊎ (length (keep f l) < length (keep g l))
        → (cond u (b ∷ keep f l) (keep f l) ≡ cond v (b ∷ keep g l) (keep g l)) ⊎ (length (cond u (b ∷ keep f l) (keep f l)) < length (cond v (b ∷ keep g l) (keep g l)))
    go true true e i (inl q) = inl (ap (λ (r : List ℕ). b ∷ r) q)
    go true true e i (inr q) = inr (omega arith)
    go true false e i q = absurd (rw i at (h b (mem-here b b l refl) (rw e tt)))
    go false true e i (inl q) = inr (omega (arith, ap length q))
    go false true e i (inr q) = inr (omega arith)
    go false false e i q = q

-- ---- the cells that are reached
module _ (t : Table) (al : ℕ) (μ : Measure) (p : Placement) where
  says_leads : (l : List ℕ) (b : ℕ) → Says (leads t al p l b) (T (mem b l) ⊎ Some (λ a. tied t al p a b) l)
  unfolding leads
  says_leads l b = either (itself (mem b l)) (says_some (λ a. tied t al p a b) l)

  abbrev step : List ℕ → List ℕ
  step l = keep (leads t al p l) (cells t)

  more : (f : ℕ → Bool) → (keep f (cells t) ≡ step (keep f (cells t))) ⊎ (length (keep f (cells t)) < length (step (keep f (cells t))))
  more f = keep_grow f (leads t al p (keep f (cells t))) (cells t) (λ a m h. (says_leads (keep f (cells t)) a).show (inl (keep_show f (cells t) a m h)))

  grow : (k : ℕ) → (reached t al μ p k ≡ reached t al μ p (suc k)) ⊎ (length (reached t al μ p k) < length (reached t al μ p (suc k)))
  unfolding reached
  grow zero = more (leftmost μ p)
  grow (suc k) = more (leads t al p (reached t al μ p k))

  short : (k : ℕ) → length (reached t al μ p k) ≤ length t
  unfolding reached cells
  short zero = keep_short (leftmost μ p) 0 (length t)
  short (suc k) = keep_short (leads t al p (reached t al μ p k)) 0 (length t)

  pub reached-is : (k a : ℕ) → T (mem a (reached t al μ p k)) → Is t a
  unfolding reached
  reached-is zero a h = cells-read t a (keep-read _ (cells t) a h).there
  reached-is (suc k) a h = cells-read t a (keep-read _ (cells t) a h).there

  pub leads-reached : (k b : ℕ) → Is t b → T (mem b (reached t al μ p k)) ⊎ Some (λ a. tied t al p a b) (reached t al μ p k) → T (mem b (reached t al μ p (suc k)))
  unfolding reached
  leads-reached k b i h = keep_show _ (cells t) b (cells_show t b i) ((says_leads (reached t al μ p k) b).show h)

  pub reached-leads : (k b : ℕ) → T (mem b (reached t al μ p (suc k))) → T (mem b (reached t al μ p k)) ⊎ Some (λ a. tied t al p a b) (reached t al μ p k)
  unfolding reached
  reached-leads k b h = (says_leads (reached t al μ p k) b).read (keep-read _ (cells t) b h).passes

  pub reached-next : (k a b : ℕ) → T (mem a (reached t al μ p k)) → Is t b → T (tied t al p a b) → T (mem b (reached t al μ p (suc k)))
  reached-next k a b m i s = leads-reached k b i (inr (record { at = a; there = m; passes = s }))

  pub reached-first : (a : ℕ) → Is t a → T (leftmost μ p a) → T (mem a (reached t al μ p 0))
  unfolding reached
  reached-first a i h = keep_show _ (cells t) a (cells_show t a i) h

  pub first-reached : (a : ℕ) → T (mem a (reached t al μ p 0)) → T (leftmost μ p a)
  unfolding reached
  first-reached a h = (keep-read _ (cells t) a h).passes

  pub reached-later : (k a : ℕ) → T (mem a (reached t al μ p 0)) → T (mem a (reached t al μ p k))
  reached-later zero a h = h
  reached-later (suc k) a h = let m = reached-later k a h in leads-reached k a (reached-is k a m) (inl m)

  same : (k : ℕ) → reached t al μ p k ≡ reached t al μ p (suc k) → reached t al μ p (suc k) ≡ reached t al μ p (suc (suc k))
  unfolding reached
  same k e = ap step e

  -- until none comes in, there is one more each time
  stable : 0 < length (reached t al μ p 0) → (k : ℕ) → (reached t al μ p k ≡ reached t al μ p (suc k)) ⊎ (k < length (reached t al μ p k))
  stable z zero = inr z
  stable z (suc k) =
      elim (stable z k) [
        | inl e ↦ inl (same k e)
        | inr h ↦ elim (grow k) [ inl e ↦ inl (same k e) | inr l ↦ inr (omega arith) ]
      ]

  -- so all are in after as many links as there are other cells
  pub all_in : 1 ≤ length t → 0 < length (reached t al μ p 0) → reached t al μ p (pred (length t)) ≡ reached t al μ p (suc (pred (length t)))
  all_in n z =
      elim (stable z (pred (length t))) [
        | inl e ↦ e
        | inr h ↦ elim (grow (pred (length t))) [ inl e ↦ e | inr l ↦ absurd (omega (arith, short (suc (pred (length t))))) ]
      ]
