-- The rules as the code tests them, on natural numbers. Assumes nothing.
use Rattle.std.specs.Prelude.{Bool, true, ◌&&◌, ℕ, zero, suc, ◌+◌, eqb, leb, ltb, Result, Ok, Err, ⊤}
use Rattle.whole.specs.Says.{only}
use Rattle.plan.specs.Limits.{farthest}
use Rattle.rules.specs.Search.{Verdict, kept, broken, scan, judge}
use Rattle.looking_sights.specs.Sights.{Sights}
use Rattle.looking_sights.specs.declared.View.{View}
use Rattle.plan.specs.declared.Breach.{Breach}

-- S1, at a cell: it is as far down as is due, and the root in column 0
unfoldable pub pass1 : ℕ → ℕ → View → Bool
pass1 a b v = only (eqb a b) (eqb v.y v.due && only (eqb a 0) (eqb v.x farthest))

unfoldable pub pass2 : ℕ → View → View → Bool
pass2 a v w = only (eqb w.parent a && eqb w.nth v.middle) (eqb v.x w.x)

unfoldable pub pass3_ends : View → View → Bool
pass3_ends v w = only (leb w.from v.first && ltb v.first w.first) (ltb v.right w.x)

unfoldable pub pass3_starts : View → View → Bool
pass3_starts v w = only (leb v.end w.first && ltb w.first v.to) (ltb v.x w.x)

unfoldable pub pass3 : View → View → Bool
pass3 v w = pass3_ends v w && pass3_starts v w

-- a cell fills the rows from y to its bottom: down to its base with its box, and from there with its stem
unfoldable pub pass4_box : View → View → Bool
pass4_box v w = only (leb v.y w.bottom && leb w.y v.base) (ltb v.right w.x)

unfoldable pub pass4_stem : View → View → Bool
pass4_stem v w = only (ltb v.base v.bottom && (ltb v.base w.bottom && leb w.y v.bottom)) (ltb v.x w.x)

unfoldable pub pass4 : View → View → Bool
pass4 v w = only (leb v.end w.first) (pass4_box v w && pass4_stem v w)

unfoldable pub pass5 : ℕ → View → View → Bool
pass5 al v w = only (leb v.end w.first) (leb (v.right + 1) (w.x + al))

unfoldable pub passes : ℕ → ℕ → ℕ → ℕ → View → View → Bool
passes al zero a b v w = true
passes al (suc zero) a b v w = pass1 a b v
passes al (suc (suc zero)) a b v w = pass2 a v w
passes al (suc (suc (suc zero))) a b v w = pass3 v w
passes al (suc (suc (suc (suc zero)))) a b v w = pass4 v w
passes al (suc (suc (suc (suc (suc zero))))) a b v w = pass5 al v w
passes al (suc (suc (suc (suc (suc (suc r)))))) a b v w = true

-- ---- the search, as `lowest` has it
unfoldable pub found_of : Verdict → Result ⊤ Breach
found_of kept = Ok tt
found_of (broken r a b) = Err (record { rule = r; a = a; b = b })

module _ (s : Sights) (al n : ℕ) where
  unfoldable pub pair : ℕ → ℕ → ℕ → Verdict
  pair r a b = judge (passes al r a b (s a) (s b)) r a b

  unfoldable pub row_found : ℕ → ℕ → Verdict
  row_found r a = scan (pair r a) 0 n

  unfoldable pub rule_found : ℕ → Verdict
  rule_found r = scan (row_found r) 0 n

  unfoldable pub all_found : Verdict
  all_found = scan rule_found 1 5
