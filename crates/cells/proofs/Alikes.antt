-- Arrays of the same shape, and arrays whose meanings agree: either way round, and through a third. Assumes nothing.
use Rattle.std.proofs.Common.{ℕ, ◌<◌, sym, refl, ◌∙◌}
use Rattle.cells.specs.Cells.{Cells, Shaped, Cell, Alike}

pub shaped_itself : (m : Cells) → Shaped m m
shaped_itself m = record { pages = refl; width = refl; limit = refl }

pub shaped_back : {m n : Cells} → Shaped m n → Shaped n m
shaped_back s = record { pages = sym s.pages; width = sym s.width; limit = sym s.limit }

-- two that have the shape of one have the shape of each other
pub shaped_join : {m n n' : Cells} → Shaped m n → Shaped m n' → Shaped n n'
shaped_join s t = record {
  pages = t.pages ∙ sym s.pages;
  width = t.width ∙ sym s.width;
  limit = t.limit ∙ sym s.limit;
}

-- one shape after another
pub shaped_then : {m n n' : Cells} → Shaped m n → Shaped n n' → Shaped m n'
shaped_then s t = shaped_join (shaped_back s) t

-- a page, and a cell, of the second is one of the first
pub page_there : {m n : Cells} → Shaped m n → {p : ℕ} → p < n.pages → p < m.pages
page_there s page = rw (sym s.pages) page

pub cell_there : {m n : Cells} → Shaped m n → {p i : ℕ} → Cell n p i → Cell m p i
cell_there s cell = record { page = page_there s cell.page; cell = rw (sym s.width) cell.cell }

-- and the other way round
pub cell_back : {m n : Cells} → Shaped m n → {p i : ℕ} → Cell m p i → Cell n p i
cell_back s cell = cell_there (shaped_back s) cell

pub alike_itself : (m : Cells) → Alike m m
alike_itself m = record { shape = shaped_itself m; set = λ p i cell. refl; wear = λ p page. refl }

pub alike_back : {m n : Cells} → Alike m n → Alike n m
alike_back a = record {
  shape = shaped_back a.shape;
  set = λ p i cell. sym (a.set p i (cell_there a.shape cell));
  wear = λ p page. sym (a.wear p (page_there a.shape page));
}

-- two that agree with one agree with each other
pub alike_join : {m n n' : Cells} → Alike m n → Alike m n' → Alike n n'
alike_join a b = record {
  shape = shaped_join a.shape b.shape;
  set = λ p i cell. let there = cell_there a.shape cell in b.set p i there ∙ sym (a.set p i there);
  wear = λ p page. let there = page_there a.shape page in b.wear p there ∙ sym (a.wear p there);
}
