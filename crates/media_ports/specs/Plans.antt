-- What is planned for a media in memory.
use Rattle.std.specs.declared.option.Option.{Option}
use Rattle.paygo_spec.specs.declared.Cut.{Cut}
use Rattle.media_ports.specs.declared.mem_media.MemMedia.{MemMedia}

-- The power cut that is planned for this media.
abbrev pub planned_cut : MemMedia → Option Cut
planned_cut media = media.cut
