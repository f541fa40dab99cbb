-- Pages of cells that can only be set, and that an erase takes back a page at a time. Assumes nothing.
use Rattle.std.specs.Prelude.{◌≡◌, ℕ, ◌<◌, ◌≤◌, Bool, false, ◌&&◌, nat_lt}

-- What a cell array means: its pages, the cells of each, which cells are set, and how often each page was erased of
-- how often it may be. An array that cannot be erased is given no wear and the limit 0.
pub record Cells : Type 0 where
  pub pages : ℕ
  pub width : ℕ
  pub set : ℕ → ℕ → Bool
  pub wear : ℕ → ℕ
  pub limit : ℕ

-- n has the pages, the width and the limit of m
pub record Shaped (m n : Cells) : Type 0 where
  pub pages : n.pages ≡ m.pages
  pub width : n.width ≡ m.width
  pub limit : n.limit ≡ m.limit

-- page p of m has a cell i
pub record Cell (m : Cells) (p i : ℕ) : Type 0 where
  pub page : p < m.pages
  pub cell : i < m.width

-- whether there is such a cell, and it is set
abbrev pub is_set : Cells → ℕ → ℕ → Bool
is_set m p i = nat_lt p m.pages && nat_lt i m.width && m.set p i

-- m and n are one meaning: they agree on every page and cell that there is
pub record Alike (m n : Cells) : Type 0 where
  pub shape : Shaped m n
  pub set : (p i : ℕ) → Cell m p i → n.set p i ≡ m.set p i
  pub wear : (p : ℕ) → p < m.pages → n.wear p ≡ m.wear p

-- no cell is set, and no page was ever erased
pub record Fresh (m : Cells) : Type 0 where
  pub unset : (p i : ℕ) → Cell m p i → m.set p i ≡ false
  pub unworn : (p : ℕ) → p < m.pages → m.wear p ≡ 0

-- the bounds of every array
pub record Bounded (m : Cells) : Type 0 where
  pub pages : m.pages ≤ 64
  pub width : m.width ≤ 1024
  pub wear : (p : ℕ) → p < m.pages → m.wear p ≤ m.limit
