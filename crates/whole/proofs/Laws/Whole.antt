-- Whole numbers for omega, which reads natural numbers only. A whole number z is plus z less minus z, one of them 0.
-- An order or an equation of whole numbers is read as one of natural numbers (the rules of `whole`), and what a sum or a
-- difference comes to is a fact to list: `omega (whole, sum a b)`. Assumes nothing.
use Rattle.std.specs.Prelude.{◌≡◌, refl, Bool, true, false, not, cond, ℕ, zero, suc, ◌+◌, ◌-◌, ◌≤◌, ◌<◌, min, T, ltb, ◌⊎◌, ℤ, pos, negsuc, neg_ℤ, ◌+ℤ◌, ◌-ℤ◌, ◌≤ℤ◌, ◌<ℤ◌}
use Rattle.std.proofs.Common.{ap, arith, ltb→lt, lt→ltb, leb→le, le→leb, nltb→le, inl, inr}
use Rattle.std.proofs.Math.IntN.{sub_ℕ}
use Rattle.std.specs.Int.Signed.{le_z, lt_z, lt_z_yes, lt_z_no}
use Rattle.whole.specs.Whole.{plus, minus}

-- ---- the order and equality
le_z_nat : (a b : ℤ) → T (le_z a b) → plus a + minus b ≤ plus b + minus a
le_z_nat (pos a) (pos b) t = omega (arith, leb→le)
le_z_nat (pos a) (negsuc b) t = absurd t
le_z_nat (negsuc a) (pos b) t = omega arith
le_z_nat (negsuc a) (negsuc b) t = omega (arith, leb→le)

nat_le_z : (a b : ℤ) → plus a + minus b ≤ plus b + minus a → T (le_z a b)
nat_le_z (pos a) (pos b) h = omega (arith, le→leb)
nat_le_z (pos a) (negsuc b) h = omega arith
nat_le_z (negsuc a) (pos b) h = tt
nat_le_z (negsuc a) (negsuc b) h = omega (arith, le→leb)

lt_z_nat : (a b : ℤ) → T (lt_z a b) → plus a + minus b < plus b + minus a
lt_z_nat (pos a) (pos b) t = omega (arith, ltb→lt)
lt_z_nat (pos a) (negsuc b) t = absurd t
lt_z_nat (negsuc a) (pos b) t = omega arith
lt_z_nat (negsuc a) (negsuc b) t = omega (arith, ltb→lt)

nat_lt_z : (a b : ℤ) → plus a + minus b < plus b + minus a → T (lt_z a b)
nat_lt_z (pos a) (pos b) h = omega (arith, lt→ltb)
nat_lt_z (pos a) (negsuc b) h = omega arith
nat_lt_z (negsuc a) (pos b) h = tt
nat_lt_z (negsuc a) (negsuc b) h = omega (arith, lt→ltb)

pub le_read : {a b : ℤ} → a ≤ℤ b → plus a + minus b ≤ plus b + minus a
le_read {a} {b} h = le_z_nat a b h.le

pub le_show : {a b : ℤ} → plus a + minus b ≤ plus b + minus a → a ≤ℤ b
le_show {a} {b} h = record { le = nat_le_z a b h }

pub lt_read : {a b : ℤ} → a <ℤ b → plus a + minus b < plus b + minus a
lt_read {a} {b} h = lt_z_nat a b h.lt

pub lt_show : {a b : ℤ} → plus a + minus b < plus b + minus a → a <ℤ b
lt_show {a} {b} h = record { lt = nat_lt_z a b h }

pub eq_read : {a b : ℤ} → a ≡ b → plus a + minus b ≡ plus b + minus a
eq_read {a} {b} e = rw e

pub eq_show : {a b : ℤ} → plus a + minus b ≡ plus b + minus a → a ≡ b
eq_show {a = pos a} {b = pos b} h = ap pos (omega arith)
eq_show {a = pos a} {b = negsuc b} h = absurd (omega arith)
eq_show {a = negsuc a} {b = pos b} h = absurd (omega arith)
eq_show {a = negsuc a} {b = negsuc b} h = ap negsuc (omega arith)

-- ---- sums and differences: facts to list
pick_ind : (c : Bool) (x y : ℤ) (P : ℤ → Type 0) → (T c → P x) → (T (not c) → P y) → P (cond c x y)
pick_ind true x y P f g = f tt
pick_ind false x y P f g = g tt

pub sub_nat : (a b : ℕ) → plus (sub_ℕ a b) + b ≡ minus (sub_ℕ a b) + a
sub_nat a b =
    pick_ind (ltb a b) (negsuc (b - suc a)) (pos (a - b)) (λ z. plus z + b ≡ minus z + a)
    (λ t. omega (arith, ltb→lt a b t)) (λ t. omega (arith, nltb→le a b t))

pub sum : (a b : ℤ) → plus (a +ℤ b) + minus a + minus b ≡ minus (a +ℤ b) + plus a + plus b
sum (pos a) (pos b) = omega arith
sum (pos a) (negsuc b) = omega (arith, sub_nat a (suc b))
sum (negsuc a) (pos b) = omega (arith, sub_nat b (suc a))
sum (negsuc a) (negsuc b) = omega arith

pub neg-plus : (a : ℤ) → plus (neg_ℤ a) ≡ minus a
neg-plus (pos zero) = refl
neg-plus (pos (suc n)) = refl
neg-plus (negsuc n) = refl

pub neg-minus : (a : ℤ) → minus (neg_ℤ a) ≡ plus a
neg-minus (pos zero) = refl
neg-minus (pos (suc n)) = refl
neg-minus (negsuc n) = refl

pub diff : (a b : ℤ) → plus (a -ℤ b) + minus a + plus b ≡ minus (a -ℤ b) + plus a + minus b
diff a b = omega (arith, sum a (neg_ℤ b), neg-plus b, neg-minus b)

-- one of the two is 0
pub narrow : (a : ℤ) → min (plus a) (minus a) ≡ 0
narrow (pos n) = omega arith
narrow (negsuc n) = omega arith

-- ---- either the one way or the other
test_cases : (c : Bool) → T c ⊎ T (not c)
test_cases true = inl tt
test_cases false = inr tt

pub lt_or_le : (a b : ℤ) → (a <ℤ b) ⊎ (b ≤ℤ a)
lt_or_le a b = elim (test_cases (lt_z a b)) [ inl h ↦ inl (lt_z_yes h) | inr h ↦ inr (lt_z_no h) ]

pub not_lt : {a b : ℤ} → ¬ (a <ℤ b) → b ≤ℤ a
not_lt {a} {b} h = elim (lt_or_le a b) [ inl k ↦ absurd (h k) | inr k ↦ k ]

pub not_le : {a b : ℤ} → ¬ (a ≤ℤ b) → b <ℤ a
not_le {a} {b} h = elim (lt_or_le b a) [ inl k ↦ k | inr k ↦ absurd (h k) ]

pub ruleset whole = (arith, le_read, le_show, lt_read, lt_show, eq_read, eq_show)
