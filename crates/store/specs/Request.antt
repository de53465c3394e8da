-- Steps 1, 2, 3 and 5: what is refused by the request's numbers alone.
use Rattle.std.specs.Prelude.{◌&&◌, ◌||◌, ◌∷◌}
use Rattle.base.specs.Base.{Bool, not, [], eqb, ltb, within, has, one_of, supersede, create, overwrite, overwrite_if, directory_file, non_directory_file, delete_on_close, append_data, delete, Request}

-- a directory is asked for; a file that is no directory is asked for
unfoldable pub wants_directory : Request → Bool
wants_directory r = has r.options directory_file

unfoldable pub wants_file : Request → Bool
wants_file r = has r.options non_directory_file

-- the open's close shall mark what it opened
unfoldable pub deletes_on_close : Request → Bool
deletes_on_close r = has r.options delete_on_close

-- step 1: INVALID_PARAMETER. Access bits in 0xF0000000, and in a number of more than 32 bits the bits above them
unfoldable pub bad_parameters : Request → Bool
bad_parameters r =
    ltb 7 r.account
    || ltb 7 r.share
    || ltb 5 r.disposition
    || not (within r.options 0x2104F)
    || not (within r.attributes 0x31A7)
    || not (within r.access 0x0FFFFFFF)
    || (has r.options 0x8 && has r.access append_data)
    || (deletes_on_close r && not (has r.access delete))
    || (wants_directory r && (has r.options 0x2000C || one_of r.disposition (supersede ∷ overwrite ∷ overwrite_if ∷ [])))

-- step 2: ACCESS_DENIED
unfoldable pub bad_access : Request → Bool
bad_access r = eqb r.access 0 || has r.access 0x0CE0FE00 || has r.access 0x01000000

-- step 3: INVALID_PARAMETER
unfoldable pub wants_both : Request → Bool
wants_both r = wants_directory r && wants_file r

-- step 5: MEDIA_WRITE_PROTECTED on a read-only volume
unfoldable pub writes_volume : Request → Bool
writes_volume r = one_of r.disposition (supersede ∷ create ∷ overwrite ∷ overwrite_if ∷ [])
