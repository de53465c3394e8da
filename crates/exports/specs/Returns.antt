-- What an exported call promises: its numbers and every byte of the tables, whatever bytes and numbers it is given.
use Rattle.std.specs.Prelude.{◌≡◌, ◌≤◌}
use Rattle.base.specs.Base.{ℕ, true, Bool, List, take, length, suc, accounts, path_limit, Tables, Step, Seen, seen}
use Rattle.call_contracts.specs.Performs.{StandFor}
use Rattle.layout.specs.{Layout.{decode, stands_for_tables}, Calls.on_bytes}
use Rattle.paths.specs.Paths.{parse_path}
use Rattle.exports.specs.{Interface.{masks_of, path_of}, declared.{PathUnits.PathUnits, Masks.Masks}}

-- a step's numbers, as `see` takes them from its reply, and the bytes that it leaves
pub record Returns (see : Seen → List ℕ) (got after : List ℕ) (s : Step (List ℕ)) : Type 0 where
  pub numbers : got ≡ see (seen s.reply)
  pub bytes : after ≡ s.state

-- a call's numbers and bytes; and of bytes that stand for tables, what they stand for afterwards
pub record ReturnsOf (see : Seen → List ℕ) (got before after : List ℕ) (call : Tables → Step Tables) : Type 0 where
  pub returns : Returns see got after (on_bytes call before)
  pub tables : stands_for_tables before ≡ true → StandFor after (call (decode before)).state

-- the masks that the bytes are
pub record MasksRead (m : Masks) (bytes : List ℕ) : Type 0 where
  pub is : take m.count m.masks ≡ masks_of bytes
  pub within : m.count ≤ accounts
  pub long : length m.masks ≡ accounts

-- units that step 4 reads as the path that the bytes are
pub record ReadsAs (p : PathUnits) (bytes : List ℕ) : Type 0 where
  pub same : (wants_directory wants_file : Bool)
      → parse_path wants_directory wants_file (take p.count p.units) ≡ parse_path wants_directory wants_file (path_of bytes)
  pub within : p.count ≤ suc path_limit
  pub long : length p.units ≡ suc path_limit
