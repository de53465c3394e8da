-- Numbers that are types of their own, the types of files, and tests of every file with its number.
use Rattle.base.{specs.Base.{ℕ, ◌<◌, ◌≡◌, Bool, true, false, not, ◌&&◌, List, ◌↔◌, ◌≢◌, eqb, length, get_or, all_from, same, is_used, is_directory, zero_file, file_used, FileType, Unused, Data, Directory, FileNo, StreamNo, Handle, File}, proofs.Laws.{refl, false≢true, true≢false, eqb-true, eq-eqb, fails_iff, exclude_iff, same_iff, numbered_at, numbered_of}}
use Rattle.lists.proofs.Places.{used_below}
use Rattle.tables.specs.Tables.{file_at}
use Rattle.consistency.specs.Relations.{type_at}

-- numbers of a type of their own are equal where the numbers are, which a test decides
pub same-file : (f g : FileNo) → f.0 ≡ g.0 → f ≡ g
same-file f g e = λ i. record { 0 = e i }

pub same-stream : (s t : StreamNo) → s.0 ≡ t.0 → s ≡ t
same-stream s t e = λ i. record { 0 = e i }

pub same_handle : (h k : Handle) → h.0 ≡ k.0 → h ≡ k
same_handle h k e = λ i. record { 0 = e i }

pub file_iff : (f g : FileNo) → (eqb f.0 g.0 ≡ true) ↔ (f ≡ g)
file_iff f g = (λ h. same-file f g (eqb-true f.0 g.0 h), λ e. eq-eqb f.0 g.0 (λ i. (e i).0))

pub stream_iff : (s t : StreamNo) → (eqb s.0 t.0 ≡ true) ↔ (s ≡ t)
stream_iff s t = (λ h. same-stream s t (eqb-true s.0 t.0 h), λ e. eq-eqb s.0 t.0 (λ i. (e i).0))

pub handle_iff : (h k : Handle) → (eqb h.0 k.0 ≡ true) ↔ (h ≡ k)
handle_iff h k = (λ t. same_handle h k (eqb-true h.0 k.0 t), λ e. eq-eqb h.0 k.0 (λ i. (e i).0))

-- a type that is not used is Unused
pub unused : (t : FileType) → is_used t ≡ false → t ≡ Unused
unfolding is_used
unused Unused h = refl
unused Data h = absurd (true≢false h)
unused Directory h = absurd (true≢false h)

pub directory_used : (t : FileType) → is_directory t ≡ true → is_used t ≡ true
unfolding is_used is_directory
directory_used Unused h = h
directory_used Data h = refl
directory_used Directory h = refl

-- two types that are used are equal where both or neither is a directory
pub same_type : (t u : FileType) → is_used t ≡ true → is_used u ≡ true → is_directory t ≡ is_directory u → t ≡ u
unfolding is_used is_directory
same_type Unused u h k e = absurd (false≢true h)
same_type Data Unused h k e = absurd (false≢true k)
same_type Data Data h k e = refl
same_type Data Directory h k e = absurd (false≢true e)
same_type Directory Unused h k e = absurd (false≢true k)
same_type Directory Data h k e = absurd (true≢false e)
same_type Directory Directory h k e = refl

-- two names in one directory, or of one file, differ
pub names_iff : (f g : FileNo) (xs ys : List ℕ) → (not (eqb f.0 g.0 && same xs ys) ≡ true) ↔ (f ≡ g → xs ≢ ys)
names_iff f g xs ys = exclude_iff (file_iff f g) (fails_iff (same_iff xs ys))

-- past the end of the files no slot is used
pub file_in : (fs : List File) (f : FileNo) → file_used (file_at fs f) ≡ true → f.0 < length fs
unfolding file_at file_used is_used
file_in fs f u = used_below file_used zero_file refl fs f.0 u

pub directory-file : (fs : List File) (f : FileNo) → is_directory (type_at fs f) ≡ true → file_used (file_at fs f) ≡ true
unfolding file_used
directory-file fs f d = directory_used (type_at fs f) d

-- a test of every record with its number, which counts only where another passes
module _ {A : Type 0} (used : A → Bool) (zero : A) (free : used zero ≡ false) (p : ℕ → A → Bool) (P : ℕ → A → Type 0)
    (decides : (n : ℕ) (x : A) → (p n x ≡ true) ↔ (used x ≡ true → P n x)) (xs : List A)
  where
    pub each_iff : (all_from p 0 xs ≡ true) ↔ ((i : ℕ) → used (get_or xs i zero) ≡ true → P i (get_or xs i zero))
    each_iff = (
      λ h i u. (decides i (get_or xs i zero)).0 (numbered_at p zero xs h i (used_below used zero free xs i u)) u,
      λ h. numbered_of p zero xs (λ i b. (decides i (get_or xs i zero)).1 (h i)),
    )

-- of every used file
module _ (p : ℕ → File → Bool) (P : FileNo → File → Type 0)
    (decides : (n : FileNo) (f : File) → (p n.0 f ≡ true) ↔ (file_used f ≡ true → P n f)) (fs : List File)
  where
    pub files_each : (all_from p 0 fs ≡ true) ↔ ((f : FileNo) → file_used (file_at fs f) ≡ true → P f (file_at fs f))
    unfolding file_at file_used is_used
    files_each =
        let e = each_iff file_used zero_file refl p (λ n. P (record { 0 = n })) (λ n. decides (record { 0 = n })) fs in
        (λ h f. e.0 h f.0, λ h. e.1 (λ i. h (record { 0 = i })))
