-- What Read and Label answer. Assumes nothing.
use Rattle.std.specs.Prelude.{List, [], ◌∷◌, cond, ℕ, zero, suc, ◌+◌, eqb, set, replicate}
use Rattle.plan.specs.Limits.{most_cells}
use Rattle.plan.specs.Questions.{to_fill, nothing, named, none, read, label, refusal}
use Rattle.plan.specs.declared.Record.{Record}
use Rattle.plan.specs.declared.Refusal.{Refusal}
use Rattle.planfile_spec.specs.Read.{Reading}
use Rattle.planfile_spec.specs.declared.Part.{Part}
use Rattle.planfile_spec.specs.Format.{trailer_of, entry, file_given}

-- 256 numbers: those of the first n cells, then zeros
unfoldable pub column : (ℕ → ℕ) → ℕ → List ℕ
column f zero = replicate most_cells 0
column f (suc n) = set (column f n) n (f n)

-- a plan of n records and an allowance
unfoldable pub columns_of : Refusal → ℕ → ℕ → (ℕ → Record) → Reading
columns_of r al n e =
    record {
      refusal = r;
      allowance = al;
      columns = record { count = n; parent = column (λ c. (e c).parent) n; kind = column (λ c. (e c).kind) n; width = column (λ c. (e c).width) n; depth = column (λ c. (e c).depth) n; rank = column (λ c. (e c).rank) n };
      label_length = column (λ c. (e c).label_length) n;
      label_start = column (λ c. (e c).label_start) n;
    }

-- Read, into a table of so many records: a refusal, and no record; or the allowance and the records
unfoldable pub reading_of : List ℕ → (room : ℕ) → Reading
reading_of f room =
    let r = refusal read (file_given f (to_fill room ∷ []) nothing) in
    cond (eqb r.number 0) (columns_of none (trailer_of f).allowance (trailer_of f).count (entry f)) (columns_of r 0 0 (entry f))

-- Label's second call: the refusal, or 0 and 0
unfoldable pub label_refusal : List ℕ → ℕ → Refusal
label_refusal f c = refusal label (file_given f [] (named c))

-- Label: the part of the file that is the cell's label; refused, the empty part at byte 0
unfoldable pub label_part : List ℕ → ℕ → Part
label_part f c =
    cond (eqb (label_refusal f c).number 0)
    (record { start = (entry f c).label_start; end = (entry f c).label_start + (entry f c).label_length })
    (record { start = 0; end = 0 })
