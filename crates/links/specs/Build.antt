-- The links as they are built: each cell is linked in among its siblings; then places and numbers of children; then the appointed place for the
-- number. What the loops keep. Assumes nothing.
use Rattle.std.specs.Prelude.{◌≡◌, List, [], ◌∷◌, ℕ, zero, suc, ◌+◌, ◌-◌, ◌*◌, ◌≤◌, ◌<◌, length, get_or, set}
use Rattle.plan.specs.Limits.{most_cells}
use Rattle.plan.specs.Plan.{appointed, Table, Is, kind, parent, rank}
use Rattle.links.specs.Links.{link, Links}
use Rattle.links.specs.Chain.{Chain, line_of, seek, link_in}

-- the parent, in a column
abbrev pub up : List ℕ → ℕ → ℕ
up fs c = get_or fs c 0

-- the first child
abbrev pub head : List ℕ → ℕ → ℕ
head ls f = get_or ls (4 * f) 0

-- the children of f, as they are linked
abbrev pub kids : List ℕ → ℕ → List ℕ
kids ls f = line_of ls (head ls f)

-- the cell c is linked in among its siblings, where its rank puts it
abbrev pub chain_one : List ℕ → List ℕ → List ℕ → ℕ → List ℕ
chain_one fs qs ls c = link_in ls c (seek qs (get_or qs c 0) (4 * up fs c) (kids ls (up fs c)))

-- the k cells from i on, the last first
unfoldable pub chained : List ℕ → List ℕ → List ℕ → ℕ → ℕ → List ℕ
chained fs qs ls zero i = ls
chained fs qs ls (suc k) i = chain_one fs qs (chained fs qs ls k (suc i)) i

-- the cells of a list get their places, from k on
unfoldable pub numbered : List ℕ → ℕ → List ℕ → List ℕ
numbered ls k [] = ls
numbered ls k (s ∷ l) = numbered (set ls (4 * s + 2) k) (k + 1) l

-- the children of f get theirs, and f their number
abbrev pub number_one : List ℕ → ℕ → List ℕ
number_one ls f = set (numbered ls 0 (kids ls f)) (4 * f + 3) (length (kids ls f))

-- the first k cells
unfoldable pub counted : List ℕ → ℕ → List ℕ
counted ls zero = ls
counted ls (suc k) = number_one (counted ls k) k

-- of the first k cells, the place of the appointed child for the number of children
unfoldable pub placed : List ℕ → List ℕ → ℕ → List ℕ
placed ks ls zero = ls
placed ks ls (suc k) = set (placed ks ls k) (4 * k + 3) (appointed (get_or ks k 0) (link ls k 3) - 1)

unfoldable pub links_of : List ℕ → List ℕ → List ℕ → ℕ → List ℕ → List ℕ
links_of fs ks qs n ls = placed ks (counted (chained fs qs ls (n - 1) 1) n) n

-- ---- what the calls need
pub record Building (fs qs : List ℕ) (n : ℕ) (ls : List ℕ) : Type 0 where
  pub some : 0 < n
  pub few : n ≤ most_cells
  pub parents : n ≤ length fs
  pub ranks : most_cells ≤ length qs
  pub room : 4 * most_cells ≤ length ls
  pub before : (c : ℕ) → 0 < c → c < n → up fs c < c
  pub clear : (i : ℕ) → get_or ls i 0 ≡ 0

pub record Seeking (qs ls : List ℕ) (from : ℕ) : Type 0 where
  pub ranks : most_cells ≤ length qs
  pub room : 4 * most_cells ≤ length ls
  pub inside : from < length ls
  pub chain : Chain ls (get_or ls from 0) (line_of ls (get_or ls from 0))

pub record Numbering (ls : List ℕ) (f : ℕ) : Type 0 where
  pub is : f < most_cells
  pub room : 4 * most_cells ≤ length ls
  pub chain : Chain ls (head ls f) (kids ls f)

pub record Counting (n : ℕ) (ls : List ℕ) : Type 0 where
  pub few : n ≤ most_cells
  pub room : 4 * most_cells ≤ length ls
  pub chains : (f : ℕ) → f < n → Chain ls (head ls f) (kids ls f)

pub record Appointing (ks : List ℕ) (n : ℕ) (ls : List ℕ) : Type 0 where
  pub few : n ≤ most_cells
  pub kinds : n ≤ length ks
  pub room : 4 * most_cells ≤ length ls
  pub low : (c : ℕ) → c < n → link ls c 3 ≤ most_cells

pub record Linking (fs ks qs : List ℕ) (n : ℕ) (ls : List ℕ) : Type 0 where
  pub building : Building fs qs n ls
  pub kinds : n ≤ length ks

-- the columns have the parents, the kinds and the ranks of the table t
pub record Reads (t : Table) (fs ks qs : List ℕ) (n : ℕ) : Type 0 where
  pub size : length t ≡ n
  pub parent_of : (c : ℕ) → Is t c → parent t c ≡ get_or fs c 0
  pub kind_of : (c : ℕ) → Is t c → kind t c ≡ get_or ks c 0
  pub rank_of : (c : ℕ) → Is t c → rank t c ≡ get_or qs c 0

-- the links are those of the table that the columns are of
abbrev pub Built : List ℕ → List ℕ → List ℕ → ℕ → List ℕ → Type 0
Built fs ks qs n ls = (t : Table) → Reads t fs ks qs n → Links t ls
