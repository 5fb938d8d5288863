use mathlib.Core.Path.{refl}
use native.Mathlib.Omega.{arith}
use Rattle.join_file.proofs.Laws.Steps.{zero_read, reads, room_of, short_output, first-refused, second-refused}
use Rattle.join_file.proofs.join_files.Goals as goal

pub returns-in_err-asked : goal.returns-in_err-asked
returns-in_err-asked c = short_output _ _ _ _ _ _ (c.in_err-asked.ensures.numbered (omega arith)) c.from_residual.ensures.1

pub returns-in-Err : goal.returns-in-Err
returns-in-Err c = first-refused _ _ _ _ (room_of _ _ (c.in_ok-asked.ensures.numbered (omega arith))) _ _ c.in-Err.ensures refl

pub returns-in-Err-read : goal.returns-in-Err-read
returns-in-Err-read c = second-refused _ _ _ _ (room_of _ _ (c.in_ok-asked.ensures.numbered (omega arith))) (zero_read _ _ (reads _ _ c.in-Ok.ensures)) _ _ c.in-Err-read.ensures refl

pub hang-requires : goal.hang-requires
hang-requires c = (reads _ _ c.in-Ok.ensures, reads _ _ c.in-Ok-read.ensures, room_of _ _ (c.in_ok-asked.ensures.numbered (omega arith)))

pub returns : goal.returns
returns c = c.hang.ensures
