-- E14's promises about reports and pools. Assumes nothing.
use Rattle.std.specs.Prelude.{◌≡◌, List, [], ◌∷◌, ◌++◌, Bool, true, false, ◌&&◌, cond, ◌+◌, ◌≤◌, ◌<◌, T, eqb, leb, Result, Ok, Err}
use Rattle.std.proofs.Math.Path.{refl, ap}
use Rattle.std.proofs.Common.{sym, ◌∙◌, subst, append-nil, append_assoc, arith}
use Rattle.std.proofs.Math.Decide.{dec_le}
use borrow.Author.Tests.{ne_eqb, le-leb, lt-leb}
use Rattle.std.proofs.Math.ListN.{length}
use Rattle.plan.specs.Questions.{asked, or_else, answered}
use Rattle.plan.specs.declared.Refusal.{Refusal}
use Rattle.season.specs.declared.Report.{Report}
use Rattle.season.specs.Report.{most_plans, Figure, summed, narrowest, widest, quotient, remainder, report, nothing, Plans}
use Rattle.season.specs.Pool.{pooled, empty, sound, pool, refuses, adds, gathered, folder, Files}
use Rattle.season.proofs.Laws.Report.{length-after, plans_after, report-none, sums}
use Rattle.season.proofs.Laws.Pool.{sound_empty, refusal_is, pooled_joins, pooled_turned}

true_is : (b : Bool) → T b → b ≡ true
true_is true h = refl
true_is false h = absurd h

-- the answer, from those to the questions
abbrev told : (x y z : Bool) → Report → Result Report Refusal
told true true true p = Ok p
told true true false p = refuses 4
told true false z p = refuses 22
told false y z p = refuses 22

pool-told : (a b : Report) (x y z : Bool) → sound a ≡ x → sound b ≡ y → leb (a.plans + b.plans) most_plans ≡ z → pool a b ≡ told x y z (pooled a b)
unfolding pool asked or_else answered
pool-told a b true true true p q r = rw (refusal_is a b, p, q, r)
pool-told a b true true false p q r = rw (refusal_is a b, p, q, r)
pool-told a b true false z p q r = rw (refusal_is a b, p, q)
pool-told a b false y z p q r = rw (refusal_is a b, p)

-- both orders give the same, refused or not
pub pool_turned : (a b : Report) → pool a b ≡ pool b a
pool_turned a b = go (sound a) (sound b) (leb (a.plans + b.plans) most_plans) refl refl refl
  where
    e : leb (b.plans + a.plans) most_plans ≡ leb (a.plans + b.plans) most_plans
    e = let h : b.plans + a.plans ≡ a.plans + b.plans = omega arith in rw h

    go : (x y z : Bool) → sound a ≡ x → sound b ≡ y → leb (a.plans + b.plans) most_plans ≡ z → pool a b ≡ pool b a
    go true true z p q r =
        pool-told a b true true z p q r
        ∙ ap (told true true z) (pooled_turned a b (λ u v. sound_empty a (rw p tt) u ∙ sym (sound_empty b (rw q tt) v)))
        ∙ sym (pool-told b a true true z q p (e ∙ r))
    go true false z p q r = pool-told a b true false z p q r ∙ sym (pool-told b a false true z q p (e ∙ r))
    go false true z p q r = pool-told a b false true z p q r ∙ sym (pool-told b a true false z q p (e ∙ r))
    go false false z p q r = pool-told a b false false z p q r ∙ sym (pool-told b a false false z q p (e ∙ r))

-- more than 1,024 plans: 4
pub pool_many : (a b : Report) → T (sound a) → T (sound b) → most_plans < a.plans + b.plans → pool a b ≡ refuses 4
pool_many a b p q h = pool-told a b true true false (true_is _ p) (true_is _ q) (lt-leb _ _ h)

-- a report that 22 refuses, first or second, however many plans there are
pub pool-wrong : (a b : Report) → sound a && sound b ≡ false → pool a b ≡ refuses 22
pool-wrong a b h = go (sound a) (sound b) refl refl h
  where
    go : (x y : Bool) → sound a ≡ x → sound b ≡ y → x && y ≡ false → pool a b ≡ refuses 22
    go true true p q k = absurd (subst (λ (b : Bool). T b) k tt)
    go true false p q k = pool-told a b true false _ p q refl
    go false y p q k = pool-told a b false y _ p q refl

-- question 22 passes every report of at most 1,024 plans
pub report-sound : (xs : List Figure) → Plans xs → length xs ≤ most_plans → T (sound (report xs))
report-sound xs h k = rw (is_true xs h k) tt
  where
    last : (xs : List Figure) → cond (eqb (length xs) 0) (empty (report xs)) true ≡ true
    last [] = unfold empty report narrowest widest summed quotient remainder in refl
    last (x ∷ xs) = rw (ne_eqb (length (x ∷ xs)) 0 (λ (e : length (x ∷ xs) ≡ 0). omega arith))

    is_true : (xs : List Figure) → Plans xs → length xs ≤ most_plans → sound (report xs) ≡ true
    is_true xs h k =
        let s = sums h in
        unfold sound report in rw (le-leb (length xs) most_plans k, le-leb _ _ s.cells, le-leb _ _ s.widths, le-leb _ _ s.areas) (last xs)

-- ---- THE promises
pub pool_joins : (xs ys : List Figure) → Plans xs → Plans ys → length xs + length ys ≤ most_plans → pool (report xs) (report ys) ≡ Ok (report (xs ++ ys))
pool_joins xs ys h k l =
    pool-told (report xs) (report ys) true true true (true_is _ (report-sound xs h (omega arith))) (true_is _ (report-sound ys k (omega arith))) (unfold report in le-leb _ _ l)
    ∙ ap Ok (pooled_joins xs ys)

-- no plan changes nothing
pub pool-none : (xs : List Figure) → Plans xs → length xs ≤ most_plans → (pool nothing (report xs) ≡ Ok (report xs)) × (pool (report xs) nothing ≡ Ok (report xs))
pool-none xs h l =
    let e : pool nothing (report xs) ≡ Ok (report xs) = rw report-none at (pool_joins [] xs Plans.no_plan h (omega arith)) in
    (e, pool_turned (report xs) nothing ∙ e)

-- ---- a folder, file by file
stays : (e : Refusal) (rs : List (Result Report Refusal)) → gathered (Err e) rs ≡ Err e
unfolding gathered adds
stays e [] = refl
stays e (r ∷ rs) = stays e rs

one : {x : Figure} {xs : List Figure} → Plans (x ∷ xs) → Plans (x ∷ [])
one (Plans.more c w r h) = Plans.more c w r Plans.no_plan

others : {x : Figure} {xs : List Figure} → Plans (x ∷ xs) → Plans xs
others (Plans.more c w r h) = h

gathers : {rs : List (Result Report Refusal)} {xs : List Figure} → Files rs xs → (ys : List Figure) → Plans ys → Plans xs → length ys + length xs ≤ most_plans → gathered (Ok (report ys)) rs ≡ Ok (report (ys ++ xs))
unfolding gathered adds
gathers Files.no_file ys h k l = sym (ap (λ (zs : List Figure). Ok (report zs)) (append-nil ys))
gathers (Files.plan {x = x} {rs = rs} {xs = xs} fs) ys h k l =
    let n = length-after ys (x ∷ []) in
    ap (λ (t : Result Report Refusal). gathered t rs) (pool_joins ys (x ∷ []) h (one k) (omega arith))
    ∙ gathers fs (ys ++ (x ∷ [])) (plans_after h (one k)) (others k) (omega (arith, n))
    ∙ ap (λ (zs : List Figure). Ok (report zs)) (append_assoc ys (x ∷ []) xs)
gathers (Files.refused fs) ys h k l = gathers fs ys h k l

passes : {rs : List (Result Report Refusal)} {xs : List Figure} → Files rs xs → (ys : List Figure) → Plans ys → Plans xs → length ys ≤ most_plans → most_plans < length ys + length xs → gathered (Ok (report ys)) rs ≡ refuses 4
unfolding gathered adds
passes Files.no_file ys h k m l = absurd (omega arith)
passes (Files.plan {x = x} {rs = rs} {xs = xs} fs) ys h k m l = go (dec_le (length ys + 1) most_plans) (λ p q. passes fs (ys ++ (x ∷ [])) (plans_after h (one k)) (others k) p q)
  where
    n : length (ys ++ (x ∷ [])) ≡ length ys + 1
    n = omega (arith, length-after ys (x ∷ []))

    go : Dec (length ys + 1 ≤ most_plans) → (length (ys ++ (x ∷ [])) ≤ most_plans → most_plans < length (ys ++ (x ∷ [])) + length xs → gathered (Ok (report (ys ++ (x ∷ [])))) rs ≡ refuses 4)
        → gathered (pool (report ys) (report (x ∷ []))) rs ≡ refuses 4
    go (yes d) f = ap (λ (t : Result Report Refusal). gathered t rs) (pool_joins ys (x ∷ []) h (one k) (omega arith)) ∙ f (omega (arith, n)) (omega (arith, n))
    go (no d) f =
        ap (λ (t : Result Report Refusal). gathered t rs) (pool_many (report ys) (report (x ∷ [])) (report-sound ys h m) (report-sound (x ∷ []) (one k) (omega arith)) (unfold report in omega arith))
        ∙ stays _ rs
passes (Files.refused fs) ys h k m l = passes fs ys h k m l

pub folder-report : (rs : List (Result Report Refusal)) (xs : List Figure) → Files rs xs → Plans xs → length xs ≤ most_plans → folder rs ≡ Ok (report xs)
folder-report rs xs fs h l = rw report-none at (gathers fs [] Plans.no_plan h (omega arith))

pub folder_many : (rs : List (Result Report Refusal)) (xs : List Figure) → Files rs xs → Plans xs → most_plans < length xs → folder rs ≡ refuses 4
folder_many rs xs fs h l = rw report-none at (passes fs [] Plans.no_plan h (omega arith) (omega arith))
