-- The lines that commands print of a volume.
pub mod ScanText
pub mod MkfsText
pub mod CheckText
unfoldable pub use ScanText.{field, header_line, tx_line, summary_line, scan_text, text_of_log, scan_text_of}
unfoldable pub use MkfsText.{usable_inodes, free_blocks, mkfs_text}
unfoldable pub use CheckText.{word_of, verdict_text, verdict_of_image, check_text_of}
