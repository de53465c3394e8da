-- What the definitions answer on sound bytes, by what was decided.
use Rattle.base.{specs.Base.{ℕ, ◌≡◌, true, Bool, List, Tables, Step, Checked, passed, refuse, ◌>>=◌, concluded, refused_reply, done, namespace, Handle, Open, Request, Status}, proofs.Laws.◌∙◌}
use Rattle.audit.specs.Sound.{sound_bytes}
use Rattle.layout.specs.Layout.{decode}
use Rattle.store.specs.{Complete.{Decision, decide}, Close.decide_close, Store.{store_view, opened, closed, volume_marked, store_open, store_close, store_set_read_only}}
use Rattle.call_contracts.proofs.Performing.{sound_asks}

-- what each call does on consistent tables
abbrev pub opening : Request → List ℕ → Tables → Checked (Step Tables)
opening r units t = decide (store_view t) (namespace t.volume) r units >>= (λ d. passed (opened t d))

abbrev pub closing : Handle → Tables → Checked (Step Tables)
closing h t = decide_close (store_view t) h >>= (λ o. passed (closed t o))

abbrev pub setting : Bool → Tables → Checked (Step Tables)
setting b t = passed (done (record { volume = volume_marked b t.volume; opens = t.opens }))

module _ (bs : List ℕ) (sound : sound_bytes bs ≡ true) where
  abbrev t : Tables
  t = decode bs

  module _ (r : Request) (units : List ℕ) where
    pub open_refuses : (s : Status) → refuse s ≡ decide (store_view t) (namespace t.volume) r units
        → store_open t r units ≡ record { reply = refused_reply s; state = t }
    unfolding store_open concluded ◌>>=◌
    open_refuses s e = sound_asks (opening r units) bs sound ∙ rw (← e)

    pub open_accepts : (d : Decision) → passed d ≡ decide (store_view t) (namespace t.volume) r units
        → store_open t r units ≡ opened t d
    unfolding store_open concluded ◌>>=◌
    open_accepts d e = sound_asks (opening r units) bs sound ∙ rw (← e)

  module _ (h : Handle) where
    pub close_refuses : (s : Status) → decide_close (store_view t) h ≡ refuse s
        → store_close t h ≡ record { reply = refused_reply s; state = t }
    unfolding store_close concluded ◌>>=◌
    close_refuses s e = sound_asks (closing h) bs sound ∙ rw e

    pub close_accepts : (o : Open) → decide_close (store_view t) h ≡ passed o → store_close t h ≡ closed t o
    unfolding store_close concluded ◌>>=◌
    close_accepts o e = sound_asks (closing h) bs sound ∙ rw e

  pub switch_sets : (b : Bool) → store_set_read_only t b ≡ done (record { volume = volume_marked b t.volume; opens = t.opens })
  unfolding store_set_read_only concluded
  switch_sets b = sound_asks (setting b) bs sound
