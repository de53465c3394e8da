-- The terms of an open: what it was granted, and what it shares.
use Rattle.records.specs.declared.Open.{Open}
use Rattle.records.specs.declared.Terms.{Terms}

abbrev pub terms_of : Open → Terms
terms_of o = record { granted = o.granted; share = o.share }
