-- No record loses anything in bytes.
use Rattle.base.{specs.Base.{ℕ, zero, suc, ◌<◌, ◌≡◌, Bool, true, false, accounts, file_name_limit, stream_name_limit, FileType, Unused, Data, Directory}, proofs.Laws.{refl, arith}}
use Rattle.codecs.{specs.Codec.{Lawful, Below}, proofs.Laws.{number_lawful, cases_lawful, both_lawful, via_lawful, row_lawful}}
use Rattle.layout.specs.{Kinds.{kinds, marks, kind_of, kind_number, mark_of, mark_number}, Records.{kind_codec, mark_codec, file_no_codec, stream_no_codec, handle_codec, file_codec, link_codec, counts_codec, stream_codec, open_codec}, Fits.{FileFits, LinkFits, CountsFit, StreamFits, OpenFits}}

pub kind_number_lem : (k : FileType) → kind_number k < kinds
unfolding kind_number
kind_number_lem Unused = omega arith
kind_number_lem Data = omega arith
kind_number_lem Directory = omega arith

pub kind_there : (k : FileType) → kind_of (kind_number k) ≡ k
unfolding kind_number kind_of
kind_there Unused = refl
kind_there Data = refl
kind_there Directory = refl

pub kind_again : (n : ℕ) → n < kinds → kind_number (kind_of n) ≡ n
unfolding kind_number kind_of
kind_again zero h = refl
kind_again (suc zero) h = refl
kind_again (suc (suc n)) h = omega arith

pub mark_number_lem : (m : Bool) → mark_number m < marks
unfolding mark_number
mark_number_lem true = omega arith
mark_number_lem false = omega arith

pub mark_there : (m : Bool) → mark_of (mark_number m) ≡ m
unfolding mark_number mark_of
mark_there true = refl
mark_there false = refl

pub mark_again : (n : ℕ) → n < marks → mark_number (mark_of n) ≡ n
unfolding mark_number mark_of
mark_again zero h = refl
mark_again (suc n) h = omega arith

pub kind_lawful : Lawful kind_codec (λ k. Unit {0})
kind_lawful = cases_lawful kinds kind_of kind_number (omega arith) kind_number_lem kind_there kind_again

pub mark_lawful : Lawful mark_codec (λ m. Unit {0})
mark_lawful = cases_lawful marks mark_of mark_number (omega arith) mark_number_lem mark_there mark_again

pub file_no_lawful : Lawful file_no_codec (λ f. Below 2 f.0)
file_no_lawful = via_lawful _ _ (λ b. refl) (λ a. refl) (λ b h. h) (λ a h. h) (number_lawful 2)

pub stream_no_lawful : Lawful stream_no_codec (λ s. Below 2 s.0)
stream_no_lawful = via_lawful _ _ (λ b. refl) (λ a. refl) (λ b h. h) (λ a h. h) (number_lawful 2)

pub handle_lawful : Lawful handle_codec (λ h. Below 8 h.0)
handle_lawful = via_lawful _ _ (λ b. refl) (λ a. refl) (λ b h. h) (λ a h. h) (number_lawful 8)

pub file_lawful : Lawful file_codec FileFits
file_lawful =
    via_lawful _ _ (λ b. refl) (λ a. refl) (λ b h. (tt, (h.attributes, (h.masks, tt))))
    (λ a h. record { attributes = h.1.0; masks = h.1.1.0 })
    (both_lawful kind_lawful
    (both_lawful (number_lawful 4) (both_lawful (row_lawful (number_lawful 4) accounts) mark_lawful)))

pub link_lawful : Lawful link_codec LinkFits
link_lawful =
    via_lawful _ _ (λ b. refl) (λ a. refl) (λ b h. (h.parent, (h.file, h.name)))
    (λ a h. record { parent = h.0; file = h.1.0; name = h.1.1 })
    (both_lawful file_no_lawful (both_lawful file_no_lawful (row_lawful (number_lawful 2) file_name_limit)))

pub counts_lawful : Lawful counts_codec CountsFit
counts_lawful =
    let two = number_lawful 2 in
    via_lawful _ _ (λ b. refl) (λ a. refl)
    (λ b h. (h.opens, (h.readers, (h.writers, (h.deleters, (h.shared_read, (h.shared_write, h.shared_delete)))))))
    (λ a h.
    record {
      opens = h.0;
      readers = h.1.0;
      writers = h.1.1.0;
      deleters = h.1.1.1.0;
      shared_read = h.1.1.1.1.0;
      shared_write = h.1.1.1.1.1.0;
      shared_delete = h.1.1.1.1.1.1;
    })
    (both_lawful two (both_lawful two (both_lawful two (both_lawful two (both_lawful two (both_lawful two two))))))

pub stream_lawful : Lawful stream_codec StreamFits
stream_lawful =
    via_lawful _ _ (λ b. refl) (λ a. refl) (λ b h. (tt, (h.file, (h.name, (h.counts, tt)))))
    (λ a h. record { file = h.1.0; name = h.1.1.0; counts = h.1.1.1.0 })
    (both_lawful kind_lawful
    (both_lawful file_no_lawful (both_lawful (row_lawful (number_lawful 2) stream_name_limit) (both_lawful counts_lawful mark_lawful))))

pub open_lawful : Lawful open_codec OpenFits
open_lawful =
    via_lawful _ _ (λ b. refl) (λ a. refl) (λ b h. (h.handle, (h.file, (h.stream, (h.granted, (h.share, tt))))))
    (λ a h. record { handle = h.0; file = h.1.0; stream = h.1.1.0; granted = h.1.1.1.0; share = h.1.1.1.1.0 })
    (both_lawful handle_lawful
    (both_lawful file_no_lawful (both_lawful stream_no_lawful (both_lawful (number_lawful 4) (both_lawful (number_lawful 4) mark_lawful)))))
