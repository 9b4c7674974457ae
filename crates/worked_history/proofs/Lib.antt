mod FileImageLaws
