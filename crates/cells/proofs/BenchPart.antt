-- The bench part, fresh and after an erase. Assumes nothing.
use Rattle.std.proofs.Common.{◌≡◌, ℕ, zero, suc, ◌+◌, ◌<◌, min, false, List, [], ◌∷◌, length, get_or, set, replicate, refl, ap, ◌∙◌, arith}
use Rattle.std.proofs.lemmas.List.{get_or-replicate, get_or-set_same, get_or-set_other}
use Rattle.cells.specs.declared.bench.Page.{Page}
use Rattle.cells.specs.Cells.{Fresh}
use Rattle.cells.specs.Device.{Erased}
use Rattle.cells.specs.Bench.{bench_page, bench_cells}

-- a page that was made so is unset
module _ (page : Page) (flags : page.set ≡ replicate 64 false) where
  pub page_unset : (i : ℕ) → i < 64 → get_or page.set i false ≡ false
  page_unset i h = ap (λ l. get_or l i false) flags ∙ get_or-replicate 64 i false false h

  pub bench_fresh : page.worn ≡ 0 → Fresh (bench_cells (page ∷ (page ∷ [])))
  bench_fresh none = record { unset = λ p i cell. cells p i cell.page cell.cell; unworn = pages }
    where
      cells : (p i : ℕ) → p < 2 → i < 64 → get_or (bench_page (page ∷ (page ∷ [])) p).set i false ≡ false
      cells zero i a b = page_unset i b
      cells (suc zero) i a b = page_unset i b
      cells (suc (suc p)) i a b = absurd (omega arith)

      pages : (p : ℕ) → p < 2 → min 3 (bench_page (page ∷ (page ∷ [])) p).worn ≡ 0
      pages zero a = omega arith
      pages (suc zero) a = omega arith
      pages (suc (suc p)) a = absurd (omega arith)

  pub bench_erased :
      (pages : List Page) (p w : ℕ) → p < 2 → length pages ≡ 2 → w ≡ min 3 (bench_page pages p).worn → w < 3 → page.worn ≡ w + 1 →
      Erased p (bench_cells pages) (bench_cells (set pages p page))
  bench_erased pages p w a all read fresh more =
      let here = get_or-set_same pages p page (record { set = []; worn = 0 }) (omega arith) in
      record {
        shape = record { pages = refl; width = refl; limit = refl };
        here = λ i h. ap (λ (q : Page). get_or q.set i false) here ∙ page_unset i h;
        others = λ q j cell apart. ap (λ (k : Page). get_or k.set j false) (get_or-set_other pages p q page _ apart);
        worn = let now = ap (λ (q : Page). q.worn) here in omega arith;
        unworn = λ q h apart. ap (λ (k : Page). min 3 k.worn) (get_or-set_other pages p q page _ apart);
      }
