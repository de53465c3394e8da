-- What the numbers and bytes of the C interface stand for.
use Rattle.std.specs.Prelude.{◌/◌, ◌%◌, ◌*◌, ◌∷◌}
use Rattle.base.specs.Base.{ℕ, Bool, not, cond, List, [], eqb, length, replicate, accounts, path_limit, suc, Seen, Request}
use Rattle.codecs.specs.Codec.{number, decode_row}
use Rattle.reply_numbers.specs.Numbers.{action_or}

-- a mark, and fold: 0 is no, all else is yes
abbrev pub flag : ℕ → Bool
flag n = not (eqb n 0)

-- masks are one number of 4 bytes for each account; bytes of any other length are no masks, which format refuses
unfoldable pub masks_of : List ℕ → List ℕ
masks_of bytes = cond (eqb (length bytes) (4 * accounts)) (decode_row (number 4) accounts bytes) []

-- a path that step 4 refuses, since it is over the limit
abbrev pub overlong : List ℕ
overlong = replicate (suc path_limit) 0

-- a path is units of 2 bytes; step 4 refuses an odd length
unfoldable pub path_of : List ℕ → List ℕ
path_of bytes = cond (eqb (length bytes % 2) 0) (decode_row (number 2) (length bytes / 2) bytes) overlong

-- the numbers of a request, in the order of the script's lines
abbrev pub request_of : (account access share disposition options attributes fold : ℕ) → Request
request_of account access share disposition options attributes fold =
    record {
      account = account;
      access = access;
      share = share;
      disposition = disposition;
      options = options;
      attributes = attributes;
      fold = flag fold;
    }

-- what a host gets: the status; of an open also the action, the access granted and the handle
abbrev pub status_alone : Seen → List ℕ
status_alone s = s.status ∷ []

abbrev pub open_numbers : Seen → List ℕ
open_numbers s = s.status ∷ action_or s.action ∷ s.granted ∷ s.handle ∷ []

-- the audit's verdict: 1 sound, 0 not
abbrev pub verdict : Bool → ℕ
verdict sound = cond sound 1 0
