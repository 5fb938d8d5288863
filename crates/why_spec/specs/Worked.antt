-- Worked reasons, each computed: the worked sheets of document 01 (crate least), with the chain that an examiner would show. Assumes nothing.
use Rattle.std.specs.Prelude.{List, [], ◌∷◌, ℕ, ℤ, pos, neg_ℤ}
use Rattle.plan.specs.Plan.{Table}
use Rattle.rules.specs.Placement.{width}
use Rattle.contours.specs.Sheet.{sheet}
use Rattle.least.specs.Worked as worked
use Rattle.why_spec.specs.Measures.{across}
use Rattle.why_spec.specs.Links.{Link, Reason}
use Rattle.why_spec.specs.Search.{reason}

pub record Row : Type 0 where
  pub table : Table
  pub allowance : ℕ
  pub wide : ℤ
  pub why : Reason

unfoldable pub computed : Row → Row
computed r =
    let p = sheet r.table r.allowance in
    record { table = r.table; allowance = r.allowance; wide = width r.table p; why = reason r.table r.allowance (across r.table) p }

unfoldable pub by : (rule from to apart : ℕ) → Link
by r a b d = record { rule = r; from = a; to = b; apart = pos d }

unfoldable pub back : (rule from to apart : ℕ) → Link
back r a b d = record { rule = r; from = a; to = b; apart = neg_ℤ (pos d) }

unfoldable pub row : Table → ℕ → (width first : ℕ) → List Link → (last : ℕ) → Row
row t al w c ls e = record { table = t; allowance = al; wide = pos w; why = record { first = c; links = ls; last = e } }

-- two subtrees that overlap by the allowance: S5 leads back to the left
unfoldable pub Z : Table
Z = worked.planned (0 ∷ 1 ∷ 0 ∷ 2 ∷ 2 ∷ 3 ∷ 3 ∷ 2 ∷ []) (5 ∷ 3 ∷ 1 ∷ 9 ∷ 3 ∷ 3 ∷ 9 ∷ 5 ∷ 3 ∷ [])

unfoldable pub reasons : List Row
reasons =
    -- one box: no link, its own W
    row worked.A 0 5 0 [] 0
    ∷ row worked.B 0 9 1 (by 3 1 2 4 ∷ []) 2
    ∷ row worked.C 0 11 1 (by 3 1 2 4 ∷ by 3 2 3 4 ∷ []) 3
    -- S5 decides at 0 and 3, S3 from 4 on
    ∷ row worked.E 0 13 1 (by 5 1 3 7 ∷ by 3 3 4 4 ∷ []) 4
    ∷ row worked.E 3 10 1 (by 5 1 3 4 ∷ by 3 3 4 4 ∷ []) 4
    ∷ row worked.E 4 9 1 (by 3 1 2 7 ∷ []) 2
    -- ◆F: 3 + 10 + 1 + 9, and the last box's 2
    ∷ row worked.F 3 25 2 (by 3 2 3 3 ∷ by 3 3 4 10 ∷ by 4 4 11 1 ∷ by 3 11 12 9 ∷ []) 12
    ∷ row worked.F 0 30 2 (by 3 2 3 3 ∷ by 5 3 5 10 ∷ by 3 5 6 3 ∷ by 5 6 11 3 ∷ by 3 11 12 9 ∷ []) 12
    -- S2 leads up to the root, whose right edge is the greatest
    ∷ row worked.K 200 12 3 (by 3 3 2 10 ∷ by 2 2 0 0 ∷ []) 0
    ∷ row worked.L 200 13 1 (by 3 1 3 1 ∷ by 3 3 4 10 ∷ by 2 4 2 0 ∷ by 2 2 0 0 ∷ []) 0
    -- a choice; by rank
    ∷ row worked.Q 200 21 1 (by 3 1 2 10 ∷ by 3 2 7 1 ∷ by 3 7 8 8 ∷ []) 8
    ∷ row worked.U 0 19 4 (by 3 4 2 5 ∷ by 3 2 5 3 ∷ by 3 5 1 6 ∷ by 3 1 3 2 ∷ []) 3
    ∷ row Z 5 26 4 (by 3 4 5 4 ∷ by 3 5 8 4 ∷ back 5 8 6 1 ∷ by 3 6 7 10 ∷ by 2 7 3 0 ∷ []) 3
    ∷ []
