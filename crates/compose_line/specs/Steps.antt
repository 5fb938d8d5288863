-- The reader as the code does it: parts of a line from a place on. Nothing that a reader must believe stands here. Assumes nothing.
use Rattle.std.specs.Prelude.{◌≡◌, List, ◌&&◌, cond, ℕ, ◌-◌, ◌≤◌, eqb, length, take, drop, Result, Ok, Err, IfOk, ⊤}
use Rattle.std.proofs.Math.Option.{Option, none, some}
use Rattle.listing.specs.Printed.{Bytes}
use Rattle.outline_spec.specs.declared.Fault.{Fault}
use Rattle.outline_spec.specs.declared.Fault.TheVariants.{Misplaced}
use Rattle.outline_spec.specs.Understood.{Line, wrong, cell}
use Rattle.compose_line.specs.declared.Told.{Told}
use Rattle.plan.specs.Questions.{lower}
use Rattle.content.specs.Content.{Item}
use Rattle.outline_spec.specs.Outline.{level_under}

-- ---- a line that can be read, or why not
unfoldable pub cleared : Option Fault → Result ⊤ Fault
cleared none = Ok tt
cleared (some f) = Err f

-- ---- a cell as its line tells it, if it stands in its place
unfoldable pub told_at : (seen : List ℕ) → Told → Result Told Fault
told_at seen t = cond (lower (length seen) t.parent && eqb t.level (level_under seen t.parent)) (Ok t) (Err Misplaced)

unfoldable pub item_in : Bytes → Told → Item
item_in line r =
    record {
      cell = record { parent = r.parent; kind = r.kind; width = r.width; depth = r.depth; rank = r.rank };
      text = take (r.end - r.start) (drop r.start line);
    }

unfoldable pub told_in : Bytes → Result Told Fault → Line
told_in line (Ok r) = cell r.level (item_in line r)
told_in line (Err f) = wrong f

pub record Tells (line : Bytes) (x : Line) (r : Result Told Fault) : Type 0 where
  pub says : told_in line r ≡ x
  pub upward : IfOk r (λ t. t.start ≤ t.end)
  pub inside : IfOk r (λ t. t.end ≤ length line)
  pub low : IfOk r (λ t. t.level ≤ 255)
  pub brief : IfOk r (λ t. t.end ≤ 255)
