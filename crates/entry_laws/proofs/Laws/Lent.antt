-- What a lent table that is too long is refused by, whatever the call. Nothing that a reader must believe stands here. Assumes nothing.
use Rattle.std.specs.Prelude.{List}
use Rattle.plan.specs.Questions.{Buffer, all_roomy, asked, or_else}
use Rattle.plan.proofs.Laws.Crowded.{crowded}
use Rattle.plan.specs.declared.Refusal.{Refusal}

-- every table that is too long is refused, and alike: by the buffers, or by its length
abbrev pub no : List Buffer → Refusal
no bs = or_else (asked 1 (all_roomy bs) 0) crowded
