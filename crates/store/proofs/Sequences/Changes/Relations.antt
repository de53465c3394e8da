-- A name that nothing matches is new.
use Rattle.base.{specs.Base.{ℕ, ◌≡◌, Bool, true, false, List, ◌≢◌, any, zero_link, link_used, BareStream, zero_bare, bare_used, bare_at, FileNo, LinkNo, StreamNo, Link}, proofs.Laws.{ap, eq-eqb, not_both, and_both, any_fails}}
use Rattle.consistency.proofs.{Links.link_in, Streams.stream_in}
use Rattle.lookup.specs.Lookup.{link_matches}
use Rattle.stored_names.specs.StoredNames.{units}
use Rattle.stream_lookup.specs.StreamLookup.{stream_matches}
use Rattle.tables.specs.Tables.{link_at}
use Rattle.units.proofs.Compare.{equal_matches}

-- where nothing matches a name, folded or not, no used record has it
module _ (fold : Bool) (f : FileNo) (name : List ℕ) where
  pub link_name_new : (ls : List Link) → any (link_matches fold f name) ls ≡ false → (l : LinkNo) → link_used (link_at ls l) ≡ true
      → (link_at ls l).parent ≡ f → units (link_at ls l).name ≢ name
  unfolding link_at link_matches
  link_name_new ls h l u p n =
      let x = link_at ls l in
      not_both
      (and_both (eq-eqb x.parent.0 f.0 (ap (λ (g : FileNo). g.0) p)) (equal_matches fold (units x.name) name n))
      (any_fails (link_matches fold f name) zero_link ls h l.0 (link_in ls l u))

  pub stream_name_new : (ss : List BareStream) → any (stream_matches fold f name) ss ≡ false → (s : StreamNo)
      → bare_used (bare_at ss s) ≡ true → (bare_at ss s).file ≡ f → units (bare_at ss s).name ≢ name
  unfolding bare_at stream_matches
  stream_name_new ss h s u p n =
      let x = bare_at ss s in
      not_both
      (and_both (and_both u (eq-eqb x.file.0 f.0 (ap (λ (g : FileNo). g.0) p)))
      (equal_matches fold (units x.name) name n))
      (any_fails (stream_matches fold f name) zero_bare ss h s.0 (stream_in ss s u))
