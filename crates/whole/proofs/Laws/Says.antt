-- Laws of the definitions in specs/Says.antt. Assumes nothing.
use Rattle.std.specs.Prelude.{◌≡◌, refl, Bool, true, false, ◌&&◌, ◌||◌, ◌⊎◌, ℕ, ◌≤◌, ◌<◌, T, eqb, leb, ltb, ℤ, ◌≤ℤ◌, ◌<ℤ◌}
use Rattle.std.proofs.Common.{sym, inl, inr, eqb→eq, leb→le, le→leb, ltb→lt, lt→ltb}
use Rattle.std.proofs.Math.Dec.{eqb_refl}
use Rattle.std.specs.Int.Signed.{le_z, lt_z, le_z_yes, lt_z_yes}
use Rattle.whole.proofs.Laws.Whole.{whole}
use Rattle.whole.specs.Says.{Says, only, eq_z}

pub itself : (b : Bool) → Says b (T b)
itself b = record { read = λ h. h; show = λ h. h }

pub that_is : {b : Bool} {P Q : Type 0} → Says b P → (P → Q) → (Q → P) → Says b Q
that_is s f g = record { read = λ h. f (s.read h); show = λ q. s.show (g q) }

pub both : {b c : Bool} {P Q : Type 0} → Says b P → Says c Q → Says (b && c) (P × Q)
both {b = true} {c} s r = record { read = λ h. (s.read tt, r.read h); show = λ h. r.show h.1 }
both {b = false} {c} s r = record { read = λ h. absurd h; show = λ h. s.show h.0 }

pub either : {b c : Bool} {P Q : Type 0} → Says b P → Says c Q → Says (b || c) (P ⊎ Q)
either {b = true} {c} {P} {Q} s r = record { read = λ h. inl (s.read tt); show = λ h. tt }
either {b = false} {c} {P} {Q} s r = record { read = λ h. inr (r.read h); show = go }
  where
    go : P ⊎ Q → T c
    go (inl h) = absurd (s.show h)
    go (inr h) = r.show h

pub whenever : {b c : Bool} {P Q : Type 0} → Says b P → Says c Q → Says (only b c) (P → Q)
whenever {b = true} {c} s r = record { read = λ h p. r.read h; show = λ h. r.show (h (s.read tt)) }
whenever {b = false} {c} s r = record { read = λ h p. absurd (s.show p); show = λ h. tt }

pub says_le : (a b : ℕ) → Says (leb a b) (a ≤ b)
says_le a b = record { read = leb→le a b; show = le→leb a b }

pub says_lt : (a b : ℕ) → Says (ltb a b) (a < b)
says_lt a b = record { read = ltb→lt a b; show = lt→ltb a b }

pub says_eq : (a b : ℕ) → Says (eqb a b) (a ≡ b)
says_eq a b = record { read = eqb→eq a b; show = λ e. rw e (eqb_refl b) }

pub says_le_z : (a b : ℤ) → Says (le_z a b) (a ≤ℤ b)
says_le_z a b = record { read = λ h. le_z_yes h; show = λ h. h.le }

pub says_lt_z : (a b : ℤ) → Says (lt_z a b) (a <ℤ b)
says_lt_z a b = record { read = λ h. lt_z_yes h; show = λ h. h.lt }

pub says_eq_z : (a b : ℤ) → Says (eq_z a b) (a ≡ b)
unfolding eq_z
says_eq_z a b = that_is (both (says_le_z a b) (says_le_z b a)) (λ h. omega whole) (λ e. omega whole)

-- ---- a test's value
pub is_true : {b : Bool} {P : Type 0} → Says b P → P → b ≡ true
is_true {b = true} s h = refl
is_true {b = false} s h = absurd (s.show h)

pub is_false : {b : Bool} {P : Type 0} → Says b P → ¬ P → b ≡ false
is_false {b = true} s h = absurd (h (s.read tt))
is_false {b = false} s h = refl

pub holds : {b : Bool} {P : Type 0} → Says b P → b ≡ true → P
holds s e = s.read (rw e tt)

pub fails : {b : Bool} {P : Type 0} → Says b P → b ≡ false → ¬ P
fails s e h = rw e at (s.show h)

-- two tests that say the same are one
pub same_test : {b c : Bool} {P : Type 0} → Says b P → Says c P → b ≡ c
same_test {b = true} {c} s r = sym (is_true r (s.read tt))
same_test {b = false} {c} s r = sym (is_false r (λ h. s.show h))
