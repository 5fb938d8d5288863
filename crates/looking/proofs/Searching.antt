-- What the loops of the search keep: no pair passed so far is broken. Assumes nothing.
use mathlib.Core.Path.{◌≡◌, refl, ◌∙◌}
use mathlib.Core.Bool.{Bool, true, false}
use Prim.Native.Nat.{ℕ, suc, ◌+◌, ◌≤◌, ◌<◌}
use native.Mathlib.Nat.{zero-add}
use native.Mathlib.Numerals.{add-one}
use native.Mathlib.Omega.{arith}
use Rattle.std.specs.Prelude.{Result, Ok, Err, IsErrAnd, ⊤}
use Rattle.plan.specs.declared.Breach.{Breach}
use Rattle.rules.specs.Search.{Verdict, kept, broken, scan, judge}
use Rattle.rules.proofs.Laws.Search.{scan-next, scan-found}
use Rattle.looking_sights.specs.Sights.{Sights}
use Rattle.looking.specs.Passes.{passes, found_of, pair, row_found, rule_found, all_found}
use Rattle.looking.proofs.Laws.Found.{kept-found, broken-found, found-broken, found-kept, that_breach}
use Rattle.looking_sights.specs.declared.View.{View}

-- ---- a loop that has come to i, of n turns
module _ (f : ℕ → Verdict) where
  scan-none : (k : ℕ) → scan f k 0 ≡ kept
  unfolding scan
  scan-none k = refl

  module _ (i : ℕ) (passed : scan f 0 i ≡ kept) where
    goes_on : f i ≡ kept → scan f 0 (i + 1) ≡ kept
    goes_on h = rw add-one (scan-next f 0 i passed (rw zero-add h))

    stops : (n : ℕ) {r a b : ℕ} → i < n → f i ≡ broken r a b → scan f 0 n ≡ broken r a b
    stops n l h = scan-found f 0 i n passed (rw zero-add h) l

    ends : (n : ℕ) → i ≤ n → n ≤ i → scan f 0 n ≡ kept
    ends n l h = let e : i ≡ n = omega arith in rw e at passed

-- ---- one pair
judge-kept : (t : Bool) (r a b : ℕ) → t ≡ true → judge t r a b ≡ kept
unfolding judge
judge-kept t r a b e = rw e

judge-broken : (t : Bool) (r a b : ℕ) → t ≡ false → judge t r a b ≡ broken r a b
unfolding judge
judge-broken t r a b e = rw e

-- ---- a rule at a, each b in turn: at those before b it is kept
pub record Rowing (s : Sights) (n al r a b : ℕ) : Type 0 where
  pub passed : scan (pair s al n r a) 0 b ≡ kept

pub rowing_starts : (s : Sights) (n al r a : ℕ) → Rowing s n al r a 0
rowing_starts s n al r a = record { passed = scan-none (pair s al n r a) 0 }

module _ {s : Sights} {n al r a b : ℕ} (h : Rowing s n al r a b) where
  module _ {v w : View} (at_a : v ≡ s a) (at_b : w ≡ s b) where
    is-pair : (t : Bool) → passes al r a b v w ≡ t → passes al r a b (s a) (s b) ≡ t
    is-pair t p = cc

    pub rowing_turns : passes al r a b v w ≡ true → Rowing s n al r a (b + 1)
    unfolding pair
    rowing_turns p = record { passed = goes_on (pair s al n r a) b h.passed (judge-kept _ r a b (is-pair true p)) }

    pub rowing_stops : b < n → passes al r a b v w ≡ false → Err (record { rule = r; a = a; b = b }) ≡ found_of (row_found s al n r a)
    unfolding pair row_found
    rowing_stops l p = broken-found (record { rule = r; a = a; b = b }) (stops (pair s al n r a) b h.passed n l (judge-broken _ r a b (is-pair false p)))

  pub rowing_ends : b ≤ n → n ≤ b → Ok tt ≡ found_of (row_found s al n r a)
  unfolding row_found
  rowing_ends l m = kept-found (ends (pair s al n r a) b h.passed n l m)

-- ---- a rule, each a in turn: at those before a it is kept
pub record Ruling (s : Sights) (n al r a : ℕ) : Type 0 where
  pub passed : scan (row_found s al n r) 0 a ≡ kept

pub ruling_starts : (s : Sights) (n al r : ℕ) → Ruling s n al r 0
ruling_starts s n al r = record { passed = scan-none (row_found s al n r) 0 }

module _ {s : Sights} {n al r a : ℕ} (h : Ruling s n al r a) where
  pub ruling_turns : {u : ⊤} → Ok u ≡ found_of (row_found s al n r a) → Ruling s n al r (a + 1)
  ruling_turns e = record { passed = goes_on (row_found s al n r) a h.passed (found-kept _ e) }

  pub ruling_stops : {e : Breach} {y : Result ⊤ Breach} → a < n → Err e ≡ found_of (row_found s al n r a) → IsErrAnd y (λ d. d ≡ e) → y ≡ found_of (rule_found s al n r)
  unfolding rule_found
  ruling_stops {e} l q p = that_breach _ p ∙ broken-found e (stops (row_found s al n r) a h.passed n l (found-broken _ q))

  pub ruling_ends : a ≤ n → n ≤ a → Ok tt ≡ found_of (rule_found s al n r)
  unfolding rule_found
  ruling_ends l m = kept-found (ends (row_found s al n r) a h.passed n l m)

-- ---- each rule in turn: the first d of them are kept
pub record Passed (s : Sights) (n al d : ℕ) : Type 0 where
  pub passed : scan (rule_found s al n) 1 d ≡ kept

module _ {s : Sights} {n al : ℕ} where
  pub none : Passed s n al 0
  none = record { passed = scan-none (rule_found s al n) 1 }

  module _ {d : ℕ} (h : Passed s n al d) where
    pub rule_kept : {u : ⊤} → Ok u ≡ found_of (rule_found s al n (1 + d)) → Passed s n al (suc d)
    rule_kept e = record { passed = scan-next (rule_found s al n) 1 d h.passed (found-kept _ e) }

    rule_breaks : {e : Breach} → Err e ≡ found_of (rule_found s al n (1 + d)) → d < 5 → Err e ≡ found_of (all_found s al n)
    unfolding all_found
    rule_breaks {e} p l = broken-found e (scan-found (rule_found s al n) 1 d 5 h.passed (found-broken _ p) l)

    pub rule_broken : {e : Breach} {y : Result ⊤ Breach} → Err e ≡ found_of (rule_found s al n (1 + d)) → IsErrAnd y (λ d. d ≡ e) → d < 5 → y ≡ found_of (all_found s al n)
    rule_broken p q l = that_breach _ q ∙ rule_breaks p l

  pub last_rule : (y : Result ⊤ Breach) → Passed s n al 4 → y ≡ found_of (rule_found s al n 5) → y ≡ found_of (all_found s al n)
  unfolding all_found
  last_rule (Ok u) h e = kept-found (rule_kept h e).passed
  last_rule (Err b) h e = rule_breaks h e (omega arith)
