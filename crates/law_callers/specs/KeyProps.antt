-- What a scalar with its key keeps of its content is a fact.
use Rattle.std.proofs.Common.{pos, negsuc}
use Rattle.std.proofs.Props.{props}
use Rattle.vortex_value.specs.Equality.{HasNoTyped, HaveNoTyped}
use Rattle.vortex_value.specs.Values.Content.{Content, null, truth, whole, text, string, sequence, tagged, typed, Contents, no_contents, content_then}
use Rattle.vortex_row.specs.Held.{IsHeld, AreHeld}

mutual
  pub held-prop : (c : Content) → IsProp (IsHeld c)
  held-prop null = hlevel props
  held-prop (truth b) = hlevel props
  held-prop (whole (pos n)) = hlevel props
  held-prop (whole (negsuc n)) = hlevel props
  held-prop (text bs) = hlevel props
  held-prop (string bs) = hlevel props
  held-prop (sequence cs) = helds-prop cs
  held-prop (tagged i c) = hlevel (props, held-prop c)
  held-prop (typed t c) = hlevel props

  helds-prop : (cs : Contents) → IsProp (AreHeld cs)
  helds-prop no_contents = hlevel props
  helds-prop (content_then c cs) = hlevel (props, held-prop c, helds-prop cs)

mutual
  pub plain-prop : (c : Content) → IsProp (HasNoTyped c)
  plain-prop null = hlevel props
  plain-prop (truth b) = hlevel props
  plain-prop (whole z) = hlevel props
  plain-prop (text bs) = hlevel props
  plain-prop (string bs) = hlevel props
  plain-prop (sequence cs) = plains-prop cs
  plain-prop (tagged i c) = plain-prop c
  plain-prop (typed t c) = hlevel props

  plains-prop : (cs : Contents) → IsProp (HaveNoTyped cs)
  plains-prop no_contents = hlevel props
  plains-prop (content_then c cs) = hlevel (props, plain-prop c, plains-prop cs)
