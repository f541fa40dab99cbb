-- From the steps on the cells of a record or of a page to the steps of a call. Assumes nothing.
use Rattle.std.proofs.Common.{◌≡◌, ℕ, ◌+◌, ◌-◌, ◌*◌, ◌<◌, ◌≤◌, not, ◌&&◌, ◌||◌, List, ◌∷◌, ◌++◌, Ok, Err, Result, sym, refl, ap, ◌∙◌, subst, ap₂, suc-mul, add-one, arith}
use Rattle.cells.specs.declared.array.CellArray.{Ghosts}
use Rattle.cells.specs.declared.fault.DeviceFault.{DeviceFault}
use Rattle.cells.specs.Cells.{Cells, Cell}
use Rattle.cells.specs.Sets.{Cellset}
use Rattle.cells.specs.Device.{Erases}
use Rattle.cells.specs.Steps.{erase_step}
use Rattle.cells.specs.Steps.Step.{Erase}
use Rattle.cells.specs.Chain.{TakesOne, Takes}
use Rattle.cells.proofs.Chains.{chain_both}
use Rattle.coset.specs.Code.{Code, Plan}
use Rattle.coset.specs.CellSets.{members_of}
use Rattle.coset.specs.declared.cellset.CellSet.{CellSet}
use Rattle.calls.specs.Records.{page_of, first_of, held}
use Rattle.calls.specs.Faults.{located}
use Rattle.calls.specs.Steps.{marks_of, newly_set}
use Rattle.calls.proofs.Marks.{marks_none, marks_agree, marks_both, marks_beyond}
use Rattle.calls.proofs.Counting.{added}
use Rattle.store.specs.declared.place.Found.{Found}
use Rattle.store.specs.Parts.{FoundRecord, SetsCells, PageWritten}

module _ {A : Type 0} (array : Ghosts A) where
  -- an erase, by its answer with the record beside a refusal
  pub erase_takes :
      (k p : ℕ) (a b : A) {U : Type 0} (r : Result U DeviceFault) (u : U) → located k r ≡ Ok u → Erases p (array.cells a) (array.cells b) r →
      array.steps a (erase_step p r) b → TakesOne array a (Erase p) b
  erase_takes k p a b (Ok v) u e erases step = (erases, step)
  erase_takes k p a b (Err f) u e erases step = absurd (let z : ◌≡◌ {A = ℕ} 0 1 = cc in omega arith)

  -- a put that marked the cells of the plan
  pub put_takes :
      (c : Code) (m m' : Cells) (k : ℕ) (found : Found) (d : ℕ) (s : Cellset) (a a' : A) →
      FoundRecord c m k found → Plan c (λ i. not (members_of found.held i)) d s → SetsCells c.cells found.place s m m' →
      Takes array (marks_of found.place.page found.place.first s c.cells) a a' →
      Takes array (marks_of (page_of c m k) (first_of c m k) (newly_set c m m' k) c.cells) a a'
  put_takes c m m' k found d s a a' known plan sets taken =
      subst (λ ss. Takes array ss a a')
      (ap₂ (λ p f. marks_of p f s c.cells) known.place.1 known.place.2
      ∙ marks_agree (page_of c m k) (first_of c m k) s (newly_set c m m' k) c.cells same)
      taken
    where
      there : (n : Cells) (i : ℕ) → n.set found.place.page (found.place.first + i) ≡ n.set (page_of c m k) (first_of c m k + i)
      there n i = ap₂ (λ p f. n.set p (f + i)) known.place.1 known.place.2

      same : (i : ℕ) → i < c.cells → s i ≡ newly_set c m m' k i
      same i h =
          sym (added (held c m k i) (s i) (λ member. ap not (sym (known.held i h)) ∙ plan.reaches.within i h member))
          ∙ ap (λ b. b && not (held c m k i)) (ap (λ b. b || s i) (sym (there m i)) ∙ sym (sets.here i h) ∙ there m' i)

  module _ (n page : ℕ) where
    pub page_takes_none : (m : Cells) (a : A) → Takes array (marks_of page 0 (m.set page) (0 * n)) a a
    page_takes_none m a =
        let none : 0 * n ≡ 0 = omega arith in
        subst (λ ss. Takes array ss a a) (sym (ap (marks_of page 0 (m.set page)) none ∙ marks_none page 0 (m.set page))) refl

    -- the records of a page, and one more
    pub page_takes_more :
        (r : ℕ) (plans : List CellSet) (marked : ℕ) (m m' m'' : Cells) (s : Cellset) (a a' a'' : A) → (r + 1) * n ≤ m.width → page < m.pages →
        PageWritten n page r plans m m' marked → SetsCells n (record { page = page; first = r * n }) s m' m'' →
        Takes array (marks_of page 0 (m'.set page) (r * n)) a a' → Takes array (marks_of page (r * n) s n) a' a'' →
        Takes array (marks_of page 0 (m''.set page) ((r + 1) * n)) a a''
    page_takes_more r plans marked m m' m'' s a a' a'' fits here written sets earlier taken =
        subst (λ ss. Takes array ss a a'') (sym all)
        (chain_both (TakesOne array) (marks_of page 0 (m'.set page) (r * n)) (marks_of page (r * n) s n) a a' a'' earlier taken)
      where
        end : (r + 1) * n ≡ r * n + n
        end = rw add-one (suc-mul r n)

        within : (j : ℕ) → j < m.width → Cell m' page j
        within j h = record { page = rw written.shape.pages here; cell = rw written.shape.width h }

        before : (j : ℕ) → j < r * n → m''.set page j ≡ m'.set page j
        before j h = let e = end in sets.others page j (within j (omega arith)) (λ o. let lo = o.1 in omega arith)

        new : (i : ℕ) → i < n → m''.set page (r * n + i) ≡ s i
        new i h = let e = end in sets.here i h ∙ ap (λ b. b || s i) (written.beyond (r * n + i) (omega arith) (omega arith))

        zero_first : (k : ℕ) → 0 + k ≡ k
        zero_first k = omega arith

        all : marks_of page 0 (m''.set page) ((r + 1) * n) ≡ marks_of page 0 (m'.set page) (r * n) ++ marks_of page (r * n) s n
        all =
            ap (marks_of page 0 (m''.set page)) end
            ∙ marks_both page 0 (m''.set page) (r * n) n
            ∙ ap₂ ◌++◌ (marks_agree page 0 (m''.set page) (m'.set page) (r * n) before)
            (marks_agree page (0 + r * n) (λ i. m''.set page (r * n + i)) s n new ∙ ap (λ f. marks_of page f s n) (zero_first (r * n)))

    -- an erase, and the records of the page
    pub renew_takes :
        (b w : ℕ) (plans : List CellSet) (marked : ℕ) (m m' : Cells) (a a' a'' : A) → b * n ≤ w → w ≡ m.width → PageWritten n page b plans m m' marked →
        TakesOne array a (Erase page) a' → Takes array (marks_of page 0 (m'.set page) (b * n)) a' a'' →
        Takes array (Erase page ∷ marks_of page 0 (m'.set page) w) a a''
    renew_takes b w plans marked m m' a a' a'' fits wide written erased taken = (
      a',
      erased,
      subst (λ ss. Takes array ss a' a'')
          (sym (marks_beyond page 0 (m'.set page) (b * n) (w - b * n) (λ j lo hi. written.beyond j lo (omega arith))) ∙ ap (marks_of page 0 (m'.set page)) whole)
          taken,
    )
      where
        whole : b * n + (w - b * n) ≡ w
        whole = omega arith
