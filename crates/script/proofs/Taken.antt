use Rattle.std.proofs.Common.{◌≡◌, ℕ, Some, None, Option, sym, refl, ap, ◌∙◌}
use Rattle.std.specs.Option.{option_map}
use Rattle.keys.specs.declared.listing.Listing.{Listing}
use Rattle.records.specs.Reading.{listing}
use Rattle.records.proofs.Rows.{listing_is}

pub itself : {X : Type 0} (o : Option X) → option_map (λ x. x) o ≡ o
itself None = refl
itself (Some x) = refl

pub listing_read : (k : Listing) (o : Option ℕ) → Some k.id ≡ o → Some k ≡ option_map listing o
listing_read k o e = ap Some (sym (listing_is k)) ∙ ap (option_map listing) e
