-- What the drill's functions need, and what they write. Nothing that a reader must believe stands here. Assumes nothing.
use Rattle.std.specs.Prelude.{◌≡◌, List, ℕ, ◌+◌, ◌*◌, ◌≤◌, ◌<◌, length, get_or}
use Rattle.plan.specs.Limits.{most_steps}
use Rattle.following_turn.specs.declared.Open.{Open}
use Rattle.following_turn.specs.Machine.{Chain, top, Beyond}
use Rattle.following_cell.specs.Opening.{Cell}

-- the arrays of the chain have 32 places each
pub record Arrays (o : Open) : Type 0 where
  pub cells_long : length o.cells ≡ 32
  pub nexts_long : length o.nexts ≡ 32
  pub times_long : length o.times ≡ 32

-- the child at place k of the chain may be begun
pub record Passing (ls nexts : List ℕ) (k : ℕ) : Type 0 where
  pub room : k < 32
  pub links : 4 * get_or nexts k 0 + 4 ≤ length ls

-- the cell s may be opened, and a step may be recorded
pub record Entering (ls ks : List ℕ) (s count records : ℕ) (list : List ℕ) : Type 0 where
  pub cell : Cell ls s
  pub kinds : s < length ks
  pub room : count < 32
  pub long : most_steps ≤ length list
  pub few : records ≤ most_steps

pub record Turning (ls ks : List ℕ) (c : Chain) (records : ℕ) (list : List ℕ) : Type 0 where
  pub some : 0 < c.count
  pub many : c.count ≤ 32
  pub kinds : (top c).cell < length ks
  pub into : 0 < (top c).next → Entering ls ks (top c).next c.count records list
  pub few : records ≤ most_steps

-- records were added, if any, and what is beyond stays
pub record Wrote (before after : ℕ) (xs ys : List ℕ) : Type 0 where
  pub more : before ≤ after
  pub few : after ≤ most_steps
  pub beyond : Beyond after xs ys
