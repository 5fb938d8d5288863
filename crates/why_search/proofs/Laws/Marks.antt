-- The marks are the layers of the search. Assumes nothing.
use Rattle.std.specs.Prelude.{◌≡◌, refl, Bool, true, false, cond, ◌&&◌, ◌⊎◌, List, ◌∷◌, length, get_or, eqb, ltb}
use Rattle.std.proofs.Common.{◌∙◌, zero-add}
use Rattle.std.proofs.Math.Logic.{inl, inr}
use Prim.Native.Nat.{ℕ, zero, suc, ◌+◌, ◌-◌, ◌≤◌, ◌<◌}
use native.Mathlib.Omega.{arith}
use Rattle.std.proofs.Math.Decide.{dec_lt, ℕ_discrete}
use Rattle.std.proofs.Math.Dec.{T}
use Rattle.whole.specs.Says.{Says}
use Rattle.whole.proofs.Laws.Says.{itself, both, says_eq, says_lt, is_true, is_false}
use Rattle.plan.specs.Lists.{from, keep, mem}
use Rattle.plan.proofs.Laws.Lists.{Some, mem_cases, mem-none, some_read, some_show, keep-read, from-read, from_show}
use Rattle.plan.specs.Plan.{Table, Is, cells}
use Rattle.rules.specs.Placement.{Placement}
use Rattle.why_spec.specs.Measures.{across}
use Rattle.why_spec.specs.Search.{first, tied, leftmost, rightmost, leads, reached, closes, fewest, final, before}
use Rattle.why_spec.proofs.Laws.Reached.{reached-is, leads-reached, reached-leads, reached-next, reached-first, first-reached}
use Rattle.why_spec.specs.Layers.{New}
use Rattle.why_spec.proofs.Laws.Trail.{new_in, older, back_new, fewest-found, fewest-least, final-found}
use Rattle.why_search.specs.Found.{Marks, Open, Closed}
use Rattle.why_layers.specs.Marks.{seek}

-- ---- seeking
pub seek_cases : (f : ℕ → Bool) (k d : ℕ) → ((seek f k d < k + d) × T (f (seek f k d)) × ((j : ℕ) → k ≤ j → j < seek f k d → ¬ T (f j)))
    ⊎ ((seek f k d ≡ k + d) × ((j : ℕ) → k ≤ j → j < k + d → ¬ T (f j)))
unfolding seek
seek_cases f k zero = inr (omega arith, λ j l h. absurd (omega arith))
seek_cases f k (suc d) = go (f k) refl (seek_cases f (suc k) d)
  where
    go : (b : Bool) → f k ≡ b
        → ((seek f (suc k) d < suc k + d) × T (f (seek f (suc k) d)) × ((j : ℕ) → suc k ≤ j → j < seek f (suc k) d → ¬ T (f j))) ⊎ ((seek f (suc k) d ≡ suc k + d) × ((j : ℕ) → suc k ≤ j → j < suc k + d → ¬ T (f j)))
        → ((cond b k (seek f (suc k) d) < k + suc d) × T (f (cond b k (seek f (suc k) d))) × ((j : ℕ) → k ≤ j → j < cond b k (seek f (suc k) d) → ¬ T (f j)))
        ⊎ ((cond b k (seek f (suc k) d) ≡ k + suc d) × ((j : ℕ) → k ≤ j → j < k + suc d → ¬ T (f j)))
    go true e r = inl (omega arith, rw e tt, λ j l h. absurd (omega arith))
    go false e (inl (l, h, n)) = inl (omega arith, h, λ j u v. off j u (n j) v)
      where
        off : (j : ℕ) → k ≤ j → (suc k ≤ j → j < seek f (suc k) d → ¬ T (f j)) → j < seek f (suc k) d → ¬ T (f j)
        off j u m v = elim (ℕ_discrete j k) [ yes q ↦ λ z. absurd (rw (q, e) at z) | no q ↦ m (omega arith) v ]
    go false e (inr (l, n)) = inr (omega arith, λ j u v. off j u (n j) v)
      where
        off : (j : ℕ) → k ≤ j → (suc k ≤ j → j < suc k + d → ¬ T (f j)) → j < k + suc d → ¬ T (f j)
        off j u m v = elim (ℕ_discrete j k) [ yes q ↦ λ z. absurd (rw (q, e) at z) | no q ↦ m (omega arith) (omega arith) ]

-- the first of a part of the numbers is the lowest
first-kept : (f g : ℕ → Bool) (k d j : ℕ) → T (mem j (keep f (from k d))) → T (g j) → first g (keep f (from k d)) ≤ j
unfolding keep from first
first-kept f g k zero j m h = absurd (mem-none j m)
first-kept f g k (suc d) j m h = go (f k) (g k) refl refl m (first-kept f g (suc k) d j)
  where
    low : T (mem j (keep f (from (suc k) d))) → k ≤ j
    low m = omega (arith, (from-read (suc k) d j (keep-read f (from (suc k) d) j m).there).0)

    go : (u v : Bool) → f k ≡ u → g k ≡ v → T (mem j (cond u (k ∷ keep f (from (suc k) d)) (keep f (from (suc k) d)))) → (T (mem j (keep f (from (suc k) d))) → T (g j) → first g (keep f (from (suc k) d)) ≤ j)
        → first g (cond u (k ∷ keep f (from (suc k) d)) (keep f (from (suc k) d))) ≤ j
    go false v e i m r = r m h
    go true true e i m r = rw i (elim (mem_cases j k (keep f (from (suc k) d)) m) [ inl q ↦ omega arith | inr q ↦ low q ])
    go true false e i m r = rw i (elim (mem_cases j k (keep f (from (suc k) d)) m) [ inl q ↦ absurd (rw (q, i) at h) | inr q ↦ r q h ])

module _ (t : Table) (al : ℕ) (p : Placement) where
  reached-least : (g : ℕ → Bool) (k j : ℕ) → T (mem j (reached t al (across t) p k)) → T (g j) → first g (reached t al (across t) p k) ≤ j
  unfolding reached cells
  reached-least g zero j m h = first-kept (leftmost (across t) p) g 0 (length t) j m h
  reached-least g (suc k) j m h = first-kept (leads t al p (reached t al (across t) p k)) g 0 (length t) j m h

  before-least : (j b r : ℕ) → T (mem r (reached t al (across t) p j)) → T (tied t al p r b) → before t al (across t) p j b ≤ r
  unfolding before
  before-least j b r m h = reached-least (λ a. tied t al p a b) j r m h

  reached-up : (d j c : ℕ) → T (mem c (reached t al (across t) p j)) → T (mem c (reached t al (across t) p (d + j)))
  reached-up zero j c h = rw zero-add h
  reached-up (suc d) j c h = let e : suc d + j ≡ suc (d + j) = omega arith in let m = reached-up d j c h in rw e (leads-reached t al (across t) p (d + j) c (reached-is t al (across t) p (d + j) c m) (inl m))

  reached-on : (j k c : ℕ) → j ≤ k → T (mem c (reached t al (across t) p j)) → T (mem c (reached t al (across t) p k))
  reached-on j k c l h = let e : (k - j) + j ≡ k = omega arith in rw e at (reached-up (k - j) j c h)

  new_low : (i j c : ℕ) → New t al (across t) p i c → New t al (across t) p j c → i < j → ⊥
  new_low i zero c h k l = omega arith
  new_low i (suc j) c h k l = k.1 (reached-on i j c (omega arith) (new_in t al (across t) p i c h))

  new_one : (i j c : ℕ) → New t al (across t) p i c → New t al (across t) p j c → i ≡ j
  new_one i j c h k = let u : ¬ (i < j) = new_low i j c h k in let v : ¬ (j < i) = new_low j i c k h in omega arith

  marks_read : (xs : List ℕ) (k c j : ℕ) → Marks t al p xs k → Is t c → get_or xs c 0 ≡ suc j → New t al (across t) p j c
  marks_read xs k c j h i e =
      elim (h c i) [
        | inl q ↦ absurd (omega (arith, q.0))
        | inr q ↦ let z : q.0 ≡ j = omega (arith, q.2) in rw z at q.3
      ]

  marks_show : (xs : List ℕ) (k c j : ℕ) → Marks t al p xs k → Is t c → j ≤ k → New t al (across t) p j c → get_or xs c 0 ≡ suc j
  marks_show xs k c j h i l n =
      elim (h c i) [
        | inl q ↦ absurd (q.1 (reached-on j k c l (new_in t al (across t) p j c n)))
        | inr q ↦ omega (arith, q.2, new_one q.0 j c q.3 n)
      ]

  -- ---- with a test that says what is tied
  module _ (tie : ℕ → ℕ → Bool) (tie-is : (a b : ℕ) → Is t a → Is t b → tie a b ≡ tied t al p a b) where
    abbrev pub on : List ℕ → ℕ → ℕ → ℕ → Bool
    on xs m b a = eqb (get_or xs a 0) m && tie a b

    says_on : (xs : List ℕ) (m b a : ℕ) → Is t a → Is t b → Says (on xs m b a) ((get_or xs a 0 ≡ m) × T (tied t al p a b))
    says_on xs m b a i j = both (says_eq (get_or xs a 0) m) (rw (← tie-is a b i j) (itself (tie a b)))

    pub first_marks : (xs : List ℕ) → ((c : ℕ) → Is t c → get_or xs c 0 ≡ cond (leftmost (across t) p c) 1 0) → Marks t al p xs 0
    first_marks xs h c i = go (leftmost (across t) p c) refl
      where
        go : (u : Bool) → leftmost (across t) p c ≡ u → ((get_or xs c 0 ≡ 0) × ¬ T (mem c (reached t al (across t) p 0))) ⊎ ((j : ℕ) × (j ≤ 0) × (get_or xs c 0 ≡ suc j) × New t al (across t) p j c)
        go true e = inr (0, omega arith, h c i ∙ rw e, reached-first t al (across t) p c i (rw e tt))
        go false e = inl (h c i ∙ rw e, λ m. rw e at (first-reached t al (across t) p c m))

    pub next_marks : (xs ys : List ℕ) (k : ℕ) → Marks t al p xs k
        → ((c : ℕ) → Is t c → get_or ys c 0 ≡ cond (eqb (get_or xs c 0) 0) (cond (ltb (seek (on xs (suc k) c) 0 (length t)) (length t)) (suc k + 1) 0) (get_or xs c 0)) → Marks t al p ys (suc k)
    next_marks xs ys k h step c i = go (h c i)
      where
        go : ((get_or xs c 0 ≡ 0) × ¬ T (mem c (reached t al (across t) p k))) ⊎ ((j : ℕ) × (j ≤ k) × (get_or xs c 0 ≡ suc j) × New t al (across t) p j c)
            → ((get_or ys c 0 ≡ 0) × ¬ T (mem c (reached t al (across t) p (suc k)))) ⊎ ((j : ℕ) × (j ≤ suc k) × (get_or ys c 0 ≡ suc j) × New t al (across t) p j c)
        go (inr (j, l, e, n)) = let z : eqb (suc j) 0 ≡ false = is_false (says_eq (suc j) 0) (λ q. omega arith) in inr (j, omega arith, step c i ∙ rw (e, z), n)
        go (inl (e, n)) =
            elim (seek_cases (on xs (suc k) c) 0 (length t)) [
              | inl q ↦
                  let a = seek (on xs (suc k) c) 0 (length t) in
                  let ai : Is t a = omega (arith, q.0) in
                  let (m, s) = (says_on xs (suc k) c a ai i).read q.1 in
                  let f = marks_read xs k a k h ai m in
                  let z : ltb a (length t) ≡ true = is_true (says_lt a (length t)) ai in
                  inr (suc k, omega arith, step c i ∙ rw (e, z) (omega arith), (reached-next t al (across t) p k a c (new_in t al (across t) p k a f) i s, n))
              | inr q ↦
                  let z : ltb (seek (on xs (suc k) c) 0 (length t)) (length t) ≡ false = is_false (says_lt _ (length t)) (λ l. omega (arith, q.0)) in
                  inl (step c i ∙ rw (e, z), λ m. none q n (reached-leads t al (across t) p k c m))
            ]
          where
            none : (seek (on xs (suc k) c) 0 (length t) ≡ 0 + length t) × ((j : ℕ) → 0 ≤ j → j < 0 + length t → ¬ T (on xs (suc k) c j)) → ¬ T (mem c (reached t al (across t) p k))
                → T (mem c (reached t al (across t) p k)) ⊎ Some (λ a. tied t al p a c) (reached t al (across t) p k) → ⊥
            none q n (inl m) = n m
            none q n (inr s) =
                let a = s.at in
                let ai = reached-is t al (across t) p k a s.there in
                let f = older t al (across t) p k a c s.there i s.passes n in
                q.1 a (omega arith) (omega arith) ((says_on xs (suc k) c a ai i).show (marks_show xs k a k h ai (omega arith) f, s.passes))

    -- the way back
    pub source_is : (xs : List ℕ) (k j b : ℕ) → Marks t al p xs k → j ≤ k → New t al (across t) p (suc j) b → (seek (on xs (suc j) b) 0 (length t) ≡ before t al (across t) p j b) × (seek (on xs (suc j) b) 0 (length t) < length t)
    source_is xs k j b h l n =
        let a = before t al (across t) p j b in
        let (m, s) = back_new t al (across t) p j b n in
        let ai = reached-is t al (across t) p j a (new_in t al (across t) p j a m) in
        let bi = reached-is t al (across t) p (suc j) b n.0 in
        let hit : T (on xs (suc j) b a) = (says_on xs (suc j) b a ai bi).show (marks_show xs k a j h ai l m, s) in
        elim (seek_cases (on xs (suc j) b) 0 (length t)) [
          | inl q ↦
              let r = seek (on xs (suc j) b) 0 (length t) in
              let ri : Is t r = omega (arith, q.0) in
              let (e, u) = (says_on xs (suc j) b r ri bi).read q.1 in
              let low : a ≤ r = before-least j b r (new_in t al (across t) p j r (marks_read xs k r j h ri e)) u in
              let high : ¬ (a < r) = λ z. q.2 a (omega arith) z hit in
              (omega arith, ri)
          | inr q ↦ absurd (q.1 a (omega arith) (omega arith) hit)
        ]

  -- ---- the end, with a test that says which right edges are the greatest
  module _ (top : ℕ → Bool) (top_is : (e : ℕ) → Is t e → top e ≡ rightmost (across t) p e) where
    abbrev pub end_on : List ℕ → ℕ → ℕ → Bool
    end_on xs m e = eqb (get_or xs e 0) m && top e

    says_end : (xs : List ℕ) (m e : ℕ) → Is t e → Says (end_on xs m e) ((get_or xs e 0 ≡ m) × T (rightmost (across t) p e))
    says_end xs m e i = both (says_eq (get_or xs e 0) m) (rw (← top_is e i) (itself (top e)))

    open_new : (k e : ℕ) → Open t al p k → T (mem e (reached t al (across t) p k)) → T (rightmost (across t) p e) → New t al (across t) p k e
    open_new zero e o m r = m
    open_new (suc k) e o m r = (m, λ h. o k (omega arith) (unfold closes in some_show (rightmost (across t) p) (reached t al (across t) p k) e h r))

    pub ending-none : (xs : List ℕ) (k : ℕ) → Marks t al p xs k → Open t al p k → seek (end_on xs (suc k)) 0 (length t) ≡ length t → Open t al p (suc k)
    ending-none xs k h o z j l =
        elim (ℕ_discrete j k) [
          | yes e ↦ rw e shut
          | no e ↦ o j (omega arith)
        ]
      where
        shut : ¬ T (closes t al (across t) p k)
        shut m =
            let s : Some (rightmost (across t) p) (reached t al (across t) p k) = (unfold closes in some_read _ _ m) in
            let i = reached-is t al (across t) p k s.at s.there in
            let hit = (says_end xs (suc k) s.at i).show (marks_show xs k s.at k h i (omega arith) (open_new k s.at o s.there s.passes), s.passes) in
            elim (seek_cases (end_on xs (suc k)) 0 (length t)) [
              | inl q ↦ omega (arith, q.0)
              | inr q ↦ q.1 s.at (omega arith) (omega arith) hit
            ]

    pub ending-some : (xs : List ℕ) (k e : ℕ) → k < length t → Marks t al p xs k → Open t al p k → e ≡ seek (end_on xs (suc k)) 0 (length t) → e < length t → Closed t al p k e
    ending-some xs k e l h o z i =
        elim (seek_cases (end_on xs (suc k)) 0 (length t)) [
          | inl q ↦ done (rw (← z) at q.1) (λ j v. rw (← z) at (q.2 j (omega arith)) v)
          | inr q ↦ absurd (omega (arith, q.0))
        ]
      where
        done : T (end_on xs (suc k) e) → ((j : ℕ) → j < e → ¬ T (end_on xs (suc k) j)) → Closed t al p k e
        done u none =
            let (m, r) = (says_end xs (suc k) e i).read u in
            let n = marks_read xs k e k h i m in
            let c : T (closes t al (across t) p k) = (unfold closes in some_show (rightmost (across t) p) (reached t al (across t) p k) e (new_in t al (across t) p k e n) r) in
            let hit : Some (closes t al (across t) p) (from 0 (length t)) = record { at = k; there = from_show 0 (length t) k (omega arith) (omega arith); passes = c } in
            let low = fewest-least t al (across t) p hit k e (new_in t al (across t) p k e n) r in
            let least : fewest t al (across t) p ≡ k = elim (dec_lt (fewest t al (across t) p) k) [ yes v ↦ absurd (o (fewest t al (across t) p) v (fewest-found t al (across t) p hit).1) | no v ↦ omega arith ] in
            record { hit = some_show _ (from 0 (length t)) k hit.there c; links = least; last = same least n r none hit; new = n }
          where
            same : fewest t al (across t) p ≡ k → New t al (across t) p k e → T (rightmost (across t) p e) → ((j : ℕ) → j < e → ¬ T (end_on xs (suc k) j)) → Some (closes t al (across t) p) (from 0 (length t)) → final t al (across t) p ≡ e
            same least n r none hit =
                let f = final t al (across t) p in
                let (fm, fr) = final-found t al (across t) p hit in
                let fm' = rw least at fm in
                let fi = reached-is t al (across t) p k f fm' in
                let up : ¬ (f < e) = λ v. none f v ((says_end xs (suc k) f fi).show (marks_show xs k f k h fi (omega arith) (open_new k f o fm' fr), fr)) in
                let down : f ≤ e = (unfold final in rw least (reached-least (rightmost (across t) p) k e (new_in t al (across t) p k e n) r)) in
                omega arith
